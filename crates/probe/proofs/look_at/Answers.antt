-- `look_at` meets its contract. Assumes nothing.
use Rattle.std.specs.Prelude.{◌≡◌, ◌⊎◌, Ok, Err, Some}
use Rattle.std.proofs.Common.{sym, ◌∙◌, ap, inl, inr, rules}
use Rattle.index.specs.Order.{ord}
use Rattle.answer.specs.declared.Rule.{Rule}
use Rattle.memory_store.specs.declared.reader.Header.{Header}
use Rattle.memory_store.specs.Reading.{said}
use Rattle.probe.specs.Laws.{look_none, look_fits, look_broken, look_good}
use Rattle.probe.proofs.look_at.Goals as goal

pub returns-then-c-eq0 : goal.returns-then-c-eq0
returns-then-c-eq0 c = look_none _ _ _ _ c.capacity_of-c.ensures c.if-c-eq0.true

pub read_page-requires : goal.read_page-requires
read_page-requires c = look_fits c.args.bytes.now _ c.capacity_of-c.ensures c.if-c-eq0.false

pub returns : goal.returns
returns c =
    let a = c.args in
    let t = ord a.order in
    let ways : ((h : Header) × ((c.read_page.result ≡ Ok h) × (c.map_err.result ≡ Ok h))) ⊎ ((r : Rule) × ((c.read_page.result ≡ Err r) × (c.map_err.result ≡ Err (Some r)))) = search rules in
    elim ways [
      | inl w ↦ rw w.1.1 (look_good t a.bytes.now a.id _ c.capacity_of-c.ensures c.if-c-eq0.false w.0 (ap (said _ a.bytes.now) (sym w.1.0) ∙ c.read_page.ensures))
      | inr w ↦ rw w.1.1 (look_broken t a.bytes.now a.id _ c.capacity_of-c.ensures c.if-c-eq0.false w.0 (ap (said _ a.bytes.now) (sym w.1.0) ∙ c.read_page.ensures))
    ]
