-- `Value::is_formed` meets its contract, by the tag. Assumes nothing.
use native.Mathlib.Omega.{arith}
use mathlib.Core.Bool.{not}
use mathlib.Core.Path.{◌∙◌, ap}
use Rattle.datom.specs.Stored.{formed_low, formed_str, formed_high}
use Rattle.datom.proofs.Value.is_formed.Goals as goal

pub returns-then-self-lt-TAG_BYTES : goal.returns-then-self-lt-TAG_BYTES
returns-then-self-lt-TAG_BYTES c = formed_low _ (omega arith)

pub returns-then-self-lt-TAG_MASK : goal.returns-then-self-lt-TAG_MASK
returns-then-self-lt-TAG_MASK c = c.is_bytes.ensures ∙ formed_str _ (omega arith) (omega arith)

pub returns : goal.returns
returns c = ap not c.is_max.ensures ∙ formed_high _ (omega arith) (omega arith)
