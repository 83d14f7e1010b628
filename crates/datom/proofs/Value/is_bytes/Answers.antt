-- `Value::is_bytes` meets its contract: each test of the definition in turn. Assumes nothing.
use native.Mathlib.Omega.{arith}
use borrow.Author.Tests.{eq-eqb, ne_eqb, le-leb, lt-leb}
use Rattle.datom.specs.Value.{str_len, is_str}
use Rattle.datom.specs.Bytes.{bytes_tag_law, other_tag}
use Rattle.datom.proofs.Value.is_bytes.Goals as goal

pub returns-then-self-ne-TAG_BYTES : goal.returns-then-self-ne-TAG_BYTES
unfolding is_str
returns-then-self-ne-TAG_BYTES c = rw (ne_eqb _ _ (other_tag c.args.self.0 (omega arith) c.if-self-ne-TAG_BYTES.true))

pub returns-then-length-gt-MAX_LENGTH : goal.returns-then-length-gt-MAX_LENGTH
unfolding is_str str_len
returns-then-length-gt-MAX_LENGTH c = rw (eq-eqb _ _ (bytes_tag_law c.args.self.0 (omega arith) c.if-self-ne-TAG_BYTES.false), lt-leb _ _ c.if-length-gt-MAX_LENGTH.true)

pub returns : goal.returns
unfolding is_str str_len
returns c = rw (eq-eqb _ _ (bytes_tag_law c.args.self.0 (omega arith) c.if-self-ne-TAG_BYTES.false), le-leb _ _ c.if-length-gt-MAX_LENGTH.false, c.past.ensures)
