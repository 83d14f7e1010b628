use Rattle.std.proofs.Common.{◌+◌, ◌≡◌, drop}
use Rattle.datom.specs.Datom.{datoms_of}
use Rattle.index.specs.Order.{ord}
use Rattle.rules.specs.Node.{rank_by}
use Rattle.lookup.specs.Gap.{inside}
use Rattle.lookup.proofs.gap.skip.Given as goal

abbrev pub invariant-loop-i : goal.invariant-loop-i
invariant-loop-i l =
    l.i + rank_by (inside (ord l.order) l.gap) (drop l.i (datoms_of l.n l.b))
    ≡ l.from + rank_by (inside (ord l.order) l.gap) (drop l.from (datoms_of l.n l.b))
