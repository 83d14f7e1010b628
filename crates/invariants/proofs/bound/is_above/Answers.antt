-- `is_above` meets its contract. Assumes nothing.
use Rattle.index.specs.Order.{ord}
use Rattle.index.specs.Named.{less_named_law}
use Rattle.invariants.specs.Bounds.{above_nothing, above_at}
use Rattle.invariants.proofs.bound.is_above.Goals as goal

pub returns-in-None : goal.returns-in-None
returns-in-None c = let a = c.args in above_nothing (ord a.order) a.lower a.d c.in-None.is

pub returns-in-Some : goal.returns-in-Some
returns-in-Some c =
    let a = c.args in
    let t = ord a.order in
    let x = c.in-Some.x in
    above_at t a.lower x a.d _ c.in-Some.is (cc (less_named_law (t.cmp x a.d)))
