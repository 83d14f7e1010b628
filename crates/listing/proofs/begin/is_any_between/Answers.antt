-- `is_any_between` meets its contract. Assumes nothing.
use Rattle.std.proofs.Common.{sym, ap, ◌∙◌}
use Rattle.std.specs.Ordering.{is_lt}
use Rattle.index.specs.Named.{less_named_law}
use Rattle.listing.proofs.begin.is_any_between.Goals as goal

pub returns-then-is_lt : goal.returns-then-is_lt
returns-then-is_lt c =
    rw (sym (less_named_law _) ∙ sym (ap is_lt c.cmp.ensures) ∙ sym c.is_lt.ensures ∙ c.if-is_lt.true, c.is_none.ensures)

pub returns-else-is_lt : goal.returns-else-is_lt
returns-else-is_lt c = rw (sym (less_named_law _) ∙ sym (ap is_lt c.cmp.ensures) ∙ sym c.is_lt.ensures ∙ c.if-is_lt.false, c.if-is_lt.false)
