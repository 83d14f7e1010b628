-- `Value::is_stored` meets its contract: by the tag, and by the constant that is named. Assumes nothing.
use native.Mathlib.Omega.{arith}
use mathlib.Core.Path.{sym, ◌∙◌}
use Rattle.datom.specs.Stored.{stored_int, stored_far_int, stored_str, stored_max, stored_far_str}
use Rattle.datom.proofs.Value.is_stored.Goals as goal

pub returns-then-self-lt-TAG_EXTERNAL : goal.returns-then-self-lt-TAG_EXTERNAL
returns-then-self-lt-TAG_EXTERNAL c = stored_int _ _ (omega arith)

pub returns-then-self-lt-TAG_BYTES : goal.returns-then-self-lt-TAG_BYTES
returns-then-self-lt-TAG_BYTES c = c.is_u64_at.ensures ∙ rw c.offset.ensures (stored_far_int _ _ (omega arith) (omega arith))

pub returns-then-self-lt-TAG_MASK : goal.returns-then-self-lt-TAG_MASK
returns-then-self-lt-TAG_MASK c = c.is_bytes.ensures ∙ stored_str _ _ (omega arith) (omega arith)

pub returns-then-is_max : goal.returns-then-is_max
returns-then-is_max c = stored_max _ _ (omega arith) (omega arith) (sym c.is_max.ensures ∙ c.if-is_max.true)

pub returns : goal.returns
returns c =
    c.is_bytes_at.ensures
    ∙ rw c.offset-2.ensures (stored_far_str _ _ (omega arith) (omega arith) (sym c.is_max.ensures ∙ c.if-is_max.false))
