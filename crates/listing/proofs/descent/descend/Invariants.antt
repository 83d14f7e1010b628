use mathlib.Core.Path.{◌≡◌}
use Rattle.memory_store.specs.Pages.{order_of}
use Rattle.listing.specs.Descent.{test_of, descent_of, down_of, left_of}
use Rattle.listing.proofs.descent.descend.Given as goal

-- the way from the page at hand ends as the whole way ends
abbrev pub invariant-loop-l : goal.invariant-loop-l
invariant-loop-l l =
    left_of (order_of l.pages) l.pages.extent l.pages.store.now (test_of (order_of l.pages) l.seek) l.l l.filled l.p
    ≡ descent_of l.level l.initial.filled (down_of (order_of l.pages) l.pages.extent l.pages.store.now (test_of (order_of l.pages) l.seek) l.level l.initial.p)
