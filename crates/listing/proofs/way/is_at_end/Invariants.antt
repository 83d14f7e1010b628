use mathlib.Core.Path.{◌≡◌}
use Rattle.listing.specs.WayLaws.{same_below}
use Rattle.listing.proofs.way.is_at_end.Given as goal

abbrev pub invariant-loop-level : goal.invariant-loop-level
invariant-loop-level l = same_below l.cursor l.level ≡ same_below l.cursor l.initial.level
