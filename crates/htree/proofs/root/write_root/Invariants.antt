use Rattle.htree.specs.Root.{Rises}
use Rattle.htree.proofs.root.write_root.Given as goal

abbrev pub invariant-loop-up : goal.invariant-loop-up
invariant-loop-up l = Rises l.extent l.initial.store l.c l.written l.level l.m l.n l.initial.s l.store l.s l.high l.up.datoms l.up.written

abbrev pub decreases-loop-up : goal.decreases-loop-up
decreases-loop-up l = l.up.datoms
