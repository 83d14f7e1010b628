use mathlib.Core.Path.{◌≡◌}
use lib.ListN.{drop}
use Rattle.index.specs.Order.{cmp_bytes}
use Rattle.index.proofs.content.order_of_bytes_from.Given as goal

abbrev pub invariant-loop-i : goal.invariant-loop-i
invariant-loop-i l = cmp_bytes (drop l.i l.a) (drop l.i l.b) ≡ cmp_bytes (drop l.from l.a) (drop l.from l.b)
