-- `second_decides` meets its contract: the words are the same, or small, or the order says. Assumes nothing.
use Prim.Native.Nat.{◌^◌}
use borrow.Author.Tests.{eq-eqb, ne_eqb, lt-ltb, le-ltb}
use native.Mathlib.Omega.{arith}
use lib.Bits.{bit_or}
use Rattle.index.specs.Front.{second_decides}
use Rattle.index.proofs.second_decides.Goals as goal

pub returns-then-u-v : goal.returns-then-u-v
unfolding second_decides
returns-then-u-v c = let a = c.args in rw (eq-eqb a.u a.v c.if-u-v.true)

pub returns-then-u-v-lt-TAG_EXTERNAL : goal.returns-then-u-v-lt-TAG_EXTERNAL
unfolding second_decides
returns-then-u-v-lt-TAG_EXTERNAL c = let a = c.args in rw (ne_eqb a.u a.v c.if-u-v.false, lt-ltb (bit_or a.u a.v) (2 ^ 62) (omega arith))

pub returns : goal.returns
unfolding second_decides
returns c =
    let a = c.args in
    rw (ne_eqb a.u a.v c.if-u-v.false, le-ltb (bit_or a.u a.v) (2 ^ 62) (omega arith), ← c.is_by_value.ensures)
