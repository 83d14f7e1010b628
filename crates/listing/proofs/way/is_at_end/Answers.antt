-- `is_at_end` meets its contract: what is left to compare says what the whole says. Assumes nothing.
use native.Mathlib.Omega.{arith}
use mathlib.Core.Path.{◌∙◌}
use Rattle.listing.specs.WayLaws.{same_none, same_on, same_stops}
use Rattle.listing.proofs.way.is_at_end.Goals as goal

pub returns-then-cursor-level : goal.returns-then-cursor-level
returns-then-cursor-level c = same_stops c.args.cursor c.loop-level.level c.loop-level-test.true c.if-cursor-level.true ∙ c.loop-level.invariant

pub loop-level-preserved : goal.loop-level-preserved
loop-level-preserved c = same_on c.args.cursor c.loop-level.level c.loop-level-test.true c.if-cursor-level.false ∙ c.loop-level.invariant

pub returns : goal.returns
returns c = same_none c.args.cursor c.loop-level.level (omega arith) ∙ c.loop-level.invariant
