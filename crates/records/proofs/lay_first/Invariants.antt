use Rattle.std.specs.Prelude.{◌≡◌}
use Rattle.records.specs.Laid.{laid_to, WordsTo}
use Rattle.records.proofs.lay_first.Given as goal

abbrev pub invariant-loop-i : goal.invariant-loop-i
invariant-loop-i l = (l.area ≡ laid_to l.records l.initial.area l.i) × WordsTo l.records l.i
