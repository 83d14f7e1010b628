-- `Value::from_bytes_inline` meets its contract, by the length. Assumes nothing.
use native.Mathlib.Omega.{arith}
use Rattle.datom.specs.Bytes.{little_below, too_long, is_short}
use Rattle.datom.proofs.Value.from_bytes_inline.Goals as goal

pub returns-then-n-gt-MAX_LENGTH : goal.returns-then-n-gt-MAX_LENGTH
returns-then-n-gt-MAX_LENGTH c = let a = c.args in too_long a.bytes.now c.if-n-gt-MAX_LENGTH.true

pub overflow_add-result-2 : goal.overflow_add-result-2
overflow_add-result-2 c =
    let a = c.args in
    omega (arith, c.joined-word.ensures, little_below 7 a.bytes.now (λ j. (c.shared_slice_known-1.given j).fits) (omega arith))

pub returns : goal.returns
returns c = let a = c.args in is_short a.bytes.now _ (omega arith) c.joined-word.ensures
