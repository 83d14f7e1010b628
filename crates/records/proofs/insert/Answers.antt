-- `insert` meets its contract: what `insert_laid` says of the records that were laid. Assumes nothing.
use Rattle.std.proofs.Common.{◌≡◌, ℕ, ◌∙◌, ap, subst, length}
use Rattle.rules.specs.Calls.{extent_of, insert_call}
use Rattle.entry.specs.Reply.{Replies}
use Rattle.records.specs.Handed.{insert_call_handed}
use Rattle.records.proofs.insert.Goals as goal

pub returns : goal.returns
returns c =
    let a = c.args in
    let s = c.lay.new.area in
    let same : length s ≡ length a.s.now = c.lay.auto.area in
    subst (Replies (extent_of a.recorded) a.store.now _ _)
    (insert_call_handed a.recorded a.store.now a.heap.now a.batch.now s c.lay.ensures a.root ∙ ap (λ (k : ℕ). insert_call a.recorded a.store.now a.heap.now k a.root a.batch.now) same)
    c.insert_laid.ensures
