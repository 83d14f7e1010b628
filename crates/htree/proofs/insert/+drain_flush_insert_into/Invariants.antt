use Prim.Native.Nat.{◌+◌, ◌-◌, ◌*◌}
use Rattle.index.specs.Order.{ord}
use Rattle.htree.specs.Cycle.{Drains}
use Rattle.htree.proofs.insert.+drain_flush_insert_into.Given as goal

abbrev pub invariant-drain-loop-turn : goal.invariant-drain-loop-turn
invariant-drain-loop-turn l = Drains (ord l.order) l.extent l.initial.store l.c l.written l.level l.m l.n l.initial.s l.store l.s (l.n - l.turn) l.left.datoms l.left.written

-- the level falls at each round of the cycle
abbrev pub decreases-drain : goal.decreases-drain
decreases-drain l = 3 * l.level + 1

abbrev pub decreases-flush : goal.decreases-flush
decreases-flush l = 3 * l.level

abbrev pub decreases-insert_into : goal.decreases-insert_into
decreases-insert_into l = 3 * l.level + 2
