-- `first_in` meets its contract. Assumes nothing.
use Prim.Native.Nat.{ℕ}
use native.Mathlib.Omega.{arith}
use mathlib.Core.Path.{◌∙◌, ap}
use Rattle.datom.specs.declared.Datom.{Datom}
use Rattle.datom.specs.Datom.{datoms_of}
use Rattle.index.specs.Order.{ord}
use Rattle.rules.specs.Page.{node_of}
use Rattle.rules.specs.Node.{rank}
use Rattle.probe.specs.Seen.{of_datom}
use Rattle.probe.specs.Laws.{of_unread, of_good, good_held, of_datom_law, of_others}
use Rattle.probe.proofs.first_in.Goals as goal

pub returns-in_default : goal.returns-in_default
returns-in_default c = of_unread _ _ _ _ c.in_default.is c.look_at.ensures

pub returns-then-sought-ne32 : goal.returns-then-sought-ne32
unfolding node_of
returns-then-sought-ne32 c =
    let a = c.args in
    of_others _ _ c.if-sought-ne32.true ∙ of_good _ _ _ c.in-Ok.is c.look_at.ensures (λ n. of_datom (λ d. rank (ord a.order).cmp d n.datoms) a.sought.now)

pub first_not_below-requires : goal.first_not_below-requires
first_not_below-requires c =
    let h = good_held _ _ _ c.in-Ok.is c.look_at.ensures in
    (omega (arith, h.few, h.fits), h.rise)

pub returns : goal.returns
unfolding node_of
returns c =
    let a = c.args in
    let place : Datom → ℕ = λ d. rank (ord a.order).cmp d (datoms_of c.in-Ok.header.count a.bytes.now) in
    c.first_not_below.ensures
    ∙ (ap place c.datom_at.ensures
    ∙ (of_datom_law place a.sought.now c.if-sought-ne32.false
    ∙ of_good _ _ _ c.in-Ok.is c.look_at.ensures (λ n. of_datom (λ d. rank (ord a.order).cmp d n.datoms) a.sought.now)))
