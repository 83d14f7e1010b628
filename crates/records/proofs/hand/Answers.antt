-- `hand` meets its contract: as many records are laid as have room in 128. Assumes nothing.
use Prim.Native.Nat.{◌*◌}
use native.Mathlib.Omega.{arith}
use mathlib.Core.Path.{sym}
use lib.ListN.{length, length-take}
use lib.Seq.{length-take-le}
use Rattle.records.specs.Laid.{laid_fits}
use Rattle.records.specs.Handed.{handed_in}
use Rattle.records.proofs.hand.Goals as goal

pub overflow_mul-k : goal.overflow_mul-k
overflow_mul-k c =
    let a = c.args in
    record { fits = omega (arith, c.laid_count-k.ensures, (laid_fits a.n (length a.s.now)).2) }

pub slice_bounds-put-end : goal.slice_bounds-put-end
slice_bounds-put-end c =
    let a = c.args in
    sym (length-take-le _ _ (omega (arith, c.laid_count-k.ensures, (laid_fits a.n (length a.s.now)).1)))

pub put-requires : goal.put-requires
put-requires c =
    let a = c.args in
    let few = (laid_fits a.n (length a.s.now)).2 in
    let e = c.laid_count-k.ensures in
    omega (arith, e, few, c.requires, length-take (32 * c.laid_count-k.result) a.s.now)

pub returns : goal.returns
unfolding handed_in
returns c = rw (← c.laid_count-k.ensures) c.put.ensures
