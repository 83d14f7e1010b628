-- `is_below` meets its contract. Assumes nothing.
use Rattle.index.specs.Order.{ord}
use Rattle.invariants.specs.Bounds.{below_nothing, below_at}
use mathlib.Core.Path.{◌∙◌}
use Rattle.invariants.proofs.bound.is_below.Goals as goal

pub returns-in-None : goal.returns-in-None
returns-in-None c = let a = c.args in below_nothing (ord a.order) a.upper a.lower c.in-None.is

pub returns-in-Some : goal.returns-in-Some
returns-in-Some c = let a = c.args in
    c.is_above.ensures ∙ below_at (ord a.order) a.upper a.lower _ c.in-Some.is
