-- `laid_count` meets its contract: each return rewrites with the tests that led there. Assumes nothing.
use borrow.Author.Tests.{lt-ltb, le-ltb}
use Rattle.records.specs.Laid.{laid_count}
use Rattle.records.proofs.laid_count.Goals as goal

pub returns-then-n-gt-MOST : goal.returns-then-n-gt-MOST
unfolding laid_count
returns-then-n-gt-MOST c = simp (lt-ltb _ _ c.if-n-gt-MOST.true)

pub returns-then-room-n : goal.returns-then-room-n
unfolding laid_count
returns-then-room-n c = simp (le-ltb _ _ c.if-n-gt-MOST.false, lt-ltb _ _ c.if-room-n.true)

pub returns : goal.returns
unfolding laid_count
returns c = simp (le-ltb _ _ c.if-n-gt-MOST.false, le-ltb _ _ c.if-room-n.false)
