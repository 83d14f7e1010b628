-- `next_from` meets its contract: at level 0 there is no child to go on to. Assumes nothing.
use Prim.Native.Nat.{suc}
use mathlib.Core.Path.{◌∙◌}
use Rattle.rules.specs.Page.{children_of}
use Rattle.listing.specs.Descent.{next_bottom, next_up}
use Rattle.listing.proofs.descent.next_from.Goals as goal

pub returns-then-level-eq0 : goal.returns-then-level-eq0
returns-then-level-eq0 c = let a = c.args in
    next_bottom a.level a.index (children_of a.c (suc a.k) a.part.now) c.if-level-eq0.true

pub returns : goal.returns
returns c = let a = c.args in
    c.next_midpoint.ensures ∙ next_up a.level a.index (children_of a.c (suc a.k) a.part.now) c.if-level-eq0.false
