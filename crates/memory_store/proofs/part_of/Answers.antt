-- `part_of` meets its contract: a page below the count lies in the store. Assumes nothing.
use native.Mathlib.Nat.{add-sub_cancel_left}
use Rattle.std.proofs.Common.{arith}
use Rattle.rules.specs.Store.{page_at}
use Rattle.memory_store.specs.FetchLaws.{in_order, page_inside}
use Rattle.memory_store.proofs.part_of.Goals as goal

pub overflow_mul-at : goal.overflow_mul-at
overflow_mul-at c = omega (arith, page_inside _ _ c.args.page.0 (in_order _ _ c.requires.0) c.requires.1)

pub overflow_add-result : goal.overflow_add-result
overflow_add-result c = omega (arith, page_inside _ _ c.args.page.0 (in_order _ _ c.requires.0) c.requires.1)

pub slice_bounds-result-end : goal.slice_bounds-result-end
slice_bounds-result-end c = omega (arith, page_inside _ _ c.args.page.0 (in_order _ _ c.requires.0) c.requires.1)

pub returns : goal.returns
unfolding page_at
returns c = rw add-sub_cancel_left
