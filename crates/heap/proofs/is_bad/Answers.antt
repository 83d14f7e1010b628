-- `heap::is_bad` meets its contract. Assumes nothing.
use native.Mathlib.Omega.{arith}
use Rattle.heap.specs.Laws.{past_slice, fits_slice}
use Rattle.heap.proofs.is_bad.Goals as goal

pub returns-then-heap-used : goal.returns-then-heap-used
returns-then-heap-used c = past_slice _ _ (omega arith)

pub returns : goal.returns
returns c = fits_slice _ _ (omega arith)
