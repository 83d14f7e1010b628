-- `count_of` meets its contract: first the bytes, then the count. Assumes nothing.
use Rattle.batch.specs.Finding.{count_ragged, count_over, count_given}
use native.Mathlib.Omega.{arith}
use Rattle.batch.proofs.count_of.Goals as goal

pub returns-then-b-ne0 : goal.returns-then-b-ne0
returns-then-b-ne0 c = count_ragged _ c.if-b-ne0.true

pub returns-then-n-gt-MOST : goal.returns-then-n-gt-MOST
returns-then-n-gt-MOST c = count_over _ (omega arith) (omega arith)

pub returns : goal.returns
returns c = count_given _ (omega arith) (omega arith)
