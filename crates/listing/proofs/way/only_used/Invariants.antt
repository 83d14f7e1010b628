use mathlib.Core.Path.{◌≡◌}
use Rattle.store.specs.Page.{page}
use Rattle.listing.specs.WayLaws.{Full, cleared}
use Rattle.listing.proofs.way.only_used.Given as goal

abbrev pub invariant-loop-level : goal.invariant-loop-level
invariant-loop-level l =
    Full l.kept × (Full l.initial.kept × ((cleared 0 l.level l.kept.indices ≡ cleared 0 l.initial.level l.initial.kept.indices) × (cleared (page 0) l.level l.kept.pages ≡ cleared (page 0) l.initial.level l.initial.kept.pages)))
