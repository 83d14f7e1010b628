use mathlib.Core.Path.{◌≡◌}
use Rattle.memory_store.specs.Pages.{fetched_from}
use Rattle.listing.specs.Opening.{open_below}
use Rattle.listing.proofs.opening.open_all.Given as goal

abbrev pub invariant-loop-level : goal.invariant-loop-level
invariant-loop-level l =
    open_below (fetched_from l.pages) l.level l.cursor.begin_indices l.cursor.begin_pages
    ≡ open_below (fetched_from l.pages) l.initial.level l.cursor.begin_indices l.cursor.begin_pages
