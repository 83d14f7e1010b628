-- `clear` meets its contract: what is cleared so far are zeros over what there was. Assumes nothing.
use Prim.Native.Nat.{ℕ, ◌-◌}
use native.Mathlib.Omega.{arith}
use mathlib.Core.List.{List}
use mathlib.Core.Path.{◌≡◌, refl, ap, ◌∙◌}
use lib.ListN.{set, length-set}
use Rattle.store.specs.Words.{zeros, patch}
use Rattle.store.specs.Padding.{cleared_none, cleared}
use Rattle.store.proofs.clear.Goals as goal

pub loop-i-init : goal.loop-i-init
loop-i-init c = (refl, cleared_none _ _)

pub loop-i-preserved : goal.loop-i-preserved
loop-i-preserved c =
    let a = c.args in
    let l = c.loop-i in
    (length-set l.s l.i 0 ∙ l.invariant.0, ap (λ (s : List ℕ). set s l.i 0) l.invariant.1 ∙ cleared a.s.now a.at l.i (omega arith) (omega arith))

pub returns : goal.returns
returns c =
    let a = c.args in
    let l = c.loop-i in
    let e : l.i ≡ a.end = omega arith in
    l.invariant.1 ∙ ap (λ (i : ℕ). patch a.s.now a.at (zeros (i - a.at))) e
