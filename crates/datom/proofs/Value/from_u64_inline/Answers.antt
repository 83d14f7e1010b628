-- `Value::from_u64_inline` meets its contract, by the test on the tag. Assumes nothing.
use borrow.Author.Tests.{lt-ltb, le-ltb}
use Rattle.datom.proofs.Value.from_u64_inline.Goals as goal

pub returns-then-value-lt-TAG_EXTERNAL : goal.returns-then-value-lt-TAG_EXTERNAL
returns-then-value-lt-TAG_EXTERNAL c = rw (lt-ltb _ _ c.if-value-lt-TAG_EXTERNAL.true)

pub returns : goal.returns
returns c = rw (le-ltb _ _ c.if-value-lt-TAG_EXTERNAL.false)
