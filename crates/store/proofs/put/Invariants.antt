use Rattle.std.proofs.Common.{length, take, ◌≡◌}
use Rattle.store.specs.Words.{patch}
use Rattle.store.proofs.put.Given as goal

abbrev pub invariant-loop-i : goal.invariant-loop-i
invariant-loop-i l = (length l.s ≡ length l.initial.s) × (l.s ≡ patch l.initial.s l.at (take l.i l.p))
