use Rattle.std.specs.Prelude.{◌≡◌, drop}
use Rattle.datom.specs.Datom.{datoms_of}
use Rattle.index.specs.Order.{ord}
use Rattle.rules.specs.Insert.{low_fault, order_fault}
use Rattle.batch.proofs.order_fault.Given as goal

abbrev pub invariant-loop-i : goal.invariant-loop-i
invariant-loop-i l = low_fault (ord l.order).cmp l.i l.last (drop l.i (datoms_of l.n l.b)) ≡ order_fault (ord l.order).cmp (datoms_of l.n l.b)
