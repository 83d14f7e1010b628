-- `heap::has_word` meets its contract. Assumes nothing.
use native.Mathlib.Omega.{arith}
use Rattle.heap.specs.Laws.{too_short, ends_before}
use Rattle.heap.proofs.has_word.Goals as goal

pub returns-then-end-lt8 : goal.returns-then-end-lt8
returns-then-end-lt8 c = too_short _ _ (omega arith)

pub returns : goal.returns
returns c = ends_before _ _ (omega arith)
