use Rattle.entry.specs.Leaf.{Cleared}
use Rattle.entry.proofs.write.clear_children.Given as goal

abbrev pub invariant-loop-i : goal.invariant-loop-i
invariant-loop-i l = Cleared l.m l.i l.initial.s l.s
