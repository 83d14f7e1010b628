-- `count_of` meets its contract: 1, then 2. Assumes nothing.
use mathlib.Core.Path.{sym, ◌∙◌}
use Rattle.entry.specs.Checks.{count_bad, count_on_law}
use Rattle.entry.proofs.check.count_of.Goals as goal

pub returns-then-is_bad : goal.returns-then-is_bad
returns-then-is_bad c = count_bad _ _ _ _ (sym c.is_bad.ensures ∙ c.if-is_bad.true)

pub returns : goal.returns
returns c = c.count_of.ensures ∙ count_on_law _ _ _ _ (sym c.is_bad.ensures ∙ c.if-is_bad.false)
