use Rattle.std.specs.Prelude.{◌≡◌}
use Rattle.index.specs.Order.{ord}
use Rattle.rules.specs.Insert.{has_same}
use Rattle.batch.specs.Twins.{earlier}
use Rattle.batch.proofs.has_twin.Given as goal

abbrev pub invariant-loop-j : goal.invariant-loop-j
invariant-loop-j l = has_same (ord l.order).cmp l.d (earlier l.j l.b) ≡ has_same (ord l.order).cmp l.d (earlier l.i l.b)
