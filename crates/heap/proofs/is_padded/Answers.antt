-- `heap::is_padded` meets its contract: the zeros are what is left of the last word. Assumes nothing.
use native.Mathlib.Omega.{arith}
use Rattle.heap.specs.Laws.{even_padded, padding_gone, padding_there}
use Rattle.heap.proofs.is_padded.Goals as goal

-- src/lib.rt:78:9
pub returns-then-over-eq0 : goal.returns-then-over-eq0
returns-then-over-eq0 c = even_padded _ _ _ c.if-over-eq0.true (omega arith)

-- src/lib.rt:81:9
pub returns-then-heap-at : goal.returns-then-heap-at
returns-then-heap-at c = padding_gone _ _ _ c.if-over-eq0.false (omega arith) (omega arith)

-- src/lib.rt:72:1
pub returns : goal.returns
returns c = rw c.word.ensures (padding_there _ _ _ c.if-over-eq0.false (λ i. (c.shared_slice_known-1.given i).fits) (omega arith) (omega arith))
