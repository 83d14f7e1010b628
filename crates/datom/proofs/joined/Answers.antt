-- `joined` meets its contract: the bytes from the last one on, as a number. Assumes nothing.
use Rattle.std.proofs.Common.{◌-◌}
use native.Mathlib.Omega.{arith}
use Rattle.datom.specs.Bytes.{little_rest, little_none, little_step}
use Rattle.datom.proofs.joined.Goals as goal

pub loop-i-init : goal.loop-i-init
loop-i-init c = little_none c.args.bytes.now

pub overflow_mul-word : goal.overflow_mul-word
overflow_mul-word c =
    let l = c.loop-i in
    omega (arith, l.invariant, little_rest 6 c.args.bytes.now (λ j. (c.type_inv.bytes j).fits) l.i (omega arith))

pub overflow_add-word : goal.overflow_add-word
overflow_add-word c =
    let l = c.loop-i in
    omega (arith, l.invariant, c.from.ensures, (c.type_inv.bytes (l.i - 1)).fits, little_rest 6 c.args.bytes.now (λ j. (c.type_inv.bytes j).fits) l.i (omega arith))

pub loop-i-preserved : goal.loop-i-preserved
loop-i-preserved c = let l = c.loop-i in rw c.from.ensures (little_step c.args.bytes.now l.i l.word (omega arith) (omega arith) l.invariant)
