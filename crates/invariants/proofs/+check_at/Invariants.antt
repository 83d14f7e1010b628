use Rattle.memory_store.specs.Pages.{order_of}
use Rattle.invariants.specs.Bounds.{bound_of}
use Rattle.invariants.specs.Along.{Along}
use Rattle.invariants.proofs.+check_at.Given as goal

abbrev pub invariant-loop-i : goal.invariant-loop-i
invariant-loop-i l = Along (order_of l.pages) l.pages.extent l.pages.store.now l.pages.capacity l.level l.page l.k l.part (bound_of l.initial.last) (bound_of l.upper) l.i (bound_of l.last) (bound_of l.midpoint)

-- the level falls at each call
abbrev pub decreases-check_at : goal.decreases-check_at
decreases-check_at l = l.level
