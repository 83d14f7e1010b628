use Rattle.memory_store.specs.Pages.{order_of}
use Rattle.lookup.specs.Path.{Going}
use Rattle.lookup.proofs.lookup_one.Given as goal

abbrev pub invariant-loop-part : goal.invariant-loop-part
invariant-loop-part l = Going (order_of l.pages) l.pages.extent l.pages.store.now l.d l.initial.l l.initial.page l.path l.gap l.page l.l l.k

abbrev pub decreases-loop-part : goal.decreases-loop-part
decreases-loop-part l = l.l
