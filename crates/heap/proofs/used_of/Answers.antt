-- `heap::used_of` meets its contract. Assumes nothing.
use native.Mathlib.Nat.{sub-zero}
use native.Mathlib.Omega.{arith}
use Rattle.heap.specs.Laws.{heap_in}
use Rattle.heap.proofs.used_of.Goals as goal

pub slice_bounds-result-end : goal.slice_bounds-result-end
slice_bounds-result-end c = omega (arith, (heap_in _ _ c.requires).0)

pub returns : goal.returns
returns c = rw sub-zero
