-- `Value::is_bound` meets its contract: max, or what may be stored. Assumes nothing.
use mathlib.Core.Path.{sym, ◌∙◌}
use Rattle.datom.specs.Stored.{bound_max, bound_stored}
use Rattle.datom.proofs.Value.is_bound.Goals as goal

pub returns-then-is_max : goal.returns-then-is_max
returns-then-is_max c = bound_max _ _ (sym c.is_max.ensures ∙ c.if-is_max.true)

pub returns : goal.returns
returns c = c.is_stored.ensures ∙ bound_stored _ _ (sym c.is_max.ensures ∙ c.if-is_max.false)
