use Rattle.std.specs.Prelude.{◌≡◌, drop, []}
use Rattle.datom.specs.Datom.{datoms_of}
use Rattle.index.specs.Order.{ord}
use Rattle.rules.specs.Insert.{twin_fault}
use Rattle.batch.specs.Twins.{earlier}
use Rattle.batch.proofs.twin_fault.Given as goal

abbrev pub invariant-loop-i : goal.invariant-loop-i
invariant-loop-i l = twin_fault (ord l.order).cmp l.i (earlier l.i l.b) (drop l.i (datoms_of l.n l.b)) ≡ twin_fault (ord l.order).cmp 0 [] (datoms_of l.n l.b)
