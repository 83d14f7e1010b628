use Rattle.std.proofs.Common.{◌-◌, ◌≤◌}
use Rattle.datom.specs.Datom.{datoms_of}
use Rattle.index.specs.Order.{ord}
use Rattle.rules.specs.Node.{rank}
use Rattle.memory_store.proofs.access.first_not_below.Given as goal

abbrev pub invariant-loop-lo : goal.invariant-loop-lo
invariant-loop-lo l = (l.lo ≤ rank (ord l.order).cmp l.d (datoms_of l.k l.s)) × (rank (ord l.order).cmp l.d (datoms_of l.k l.s) ≤ l.hi) × (l.hi ≤ l.k)

abbrev pub decreases-loop-lo : goal.decreases-loop-lo
decreases-loop-lo l = l.hi - l.lo
