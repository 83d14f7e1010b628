use Rattle.htree.specs.Split.{Looping}
use Prim.Native.Nat.{◌+◌}
use Rattle.htree.proofs.place.split.Given as goal

abbrev pub invariant-loop-p : goal.invariant-loop-p
invariant-loop-p l = Looping l.extent l.initial.store l.c l.written l.level l.initial.s l.m l.n l.pages l.each l.more l.store l.s l.p l.i (l.written + l.p)
