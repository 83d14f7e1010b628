-- `start_bounded` meets its contract: one law for each return. Assumes nothing.
use mathlib.Core.Path.{◌∙◌}
use Rattle.florinwick.specs.Listing.{lower_short, upper_short, bounds_given}
use Rattle.florinwick.proofs.list.start_bounded.Goals as goal

pub returns-then-lower-ne32 : goal.returns-then-lower-ne32
returns-then-lower-ne32 c = c.refused.ensures ∙ lower_short _ _ _ _ _ _ c.if-lower-ne32.true

pub returns-then-upper-ne32 : goal.returns-then-upper-ne32
returns-then-upper-ne32 c = c.refused-then-upper-ne32.ensures ∙ upper_short _ _ _ _ _ _ c.if-lower-ne32.false c.if-upper-ne32.true

pub returns : goal.returns
returns c =
    rw (c.datom_at-from.ensures, c.datom_at-to.ensures) at c.start.ensures
    ∙ bounds_given _ _ _ _ _ _ c.if-lower-ne32.false c.if-upper-ne32.false
