use mathlib.Core.Path.{◌≡◌}
use Rattle.std.specs.Prelude.{Ok}
use Rattle.memory_store.specs.Pages.{order_of, fetched_from}
use Rattle.listing.specs.Candidate.{candidate_below}
use Rattle.listing.proofs.candidate.smallest.Given as goal

abbrev pub invariant-loop-level : goal.invariant-loop-level
invariant-loop-level l = Ok l.best ≡ candidate_below (order_of l.pages) (fetched_from l.pages) l.level l.cursor.begin_indices l.cursor.begin_pages
