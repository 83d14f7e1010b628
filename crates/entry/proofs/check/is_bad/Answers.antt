-- `is_bad` meets its contract: the pages, then the scratch. Assumes nothing.
use mathlib.Core.Path.{sym, ◌∙◌, ap}
use native.Mathlib.Omega.{arith}
use lib.Dec.{ltb}
use Rattle.store.specs.Size.{scratch_need}
use Rattle.memory_store.specs.FetchLaws.{in_order}
use Rattle.entry.specs.Checks.{bad_pages_law, bad_scratch_law}
use Rattle.entry.proofs.check.is_bad.Goals as goal

pub returns-then-is_bad : goal.returns-then-is_bad
returns-then-is_bad c = bad_pages_law _ _ _ (sym c.is_bad.ensures ∙ c.if-is_bad.true)

pub need_for-requires : goal.need_for-requires
need_for-requires c =
    let a = c.args in
    omega (arith, (in_order a.extent a.store.now (sym c.is_bad.ensures ∙ c.if-is_bad.false)).known.few, c.capacity_of.ensures)

pub returns : goal.returns
returns c =
    let a = c.args in
    ap (ltb a.scratch) (c.need_for.ensures ∙ ap scratch_need c.capacity_of.ensures)
    ∙ bad_scratch_law _ _ _ (sym c.is_bad.ensures ∙ c.if-is_bad.false)
