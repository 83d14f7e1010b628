-- `handed_length` meets its contract: each return rewrites with the test that led there. Assumes nothing.
use borrow.Author.Tests.{lt-ltb, le-ltb}
use Rattle.records.specs.Handed.{handed_length}
use Rattle.records.proofs.handed_length.Goals as goal

pub returns-then-n-gt-MOST : goal.returns-then-n-gt-MOST
unfolding handed_length
returns-then-n-gt-MOST c = simp (lt-ltb _ _ c.if-n-gt-MOST.true)

pub returns : goal.returns
unfolding handed_length
returns c = simp (le-ltb _ _ c.if-n-gt-MOST.false)
