use Rattle.std.specs.Prelude.{ℕ, Bool, ◌≡◌, drop}
use Rattle.datom.specs.declared.Datom.{Datom}
use Rattle.datom.specs.Datom.{datoms_of}
use Rattle.answer.specs.declared.Refusal.{Refusal}
use Rattle.rules.specs.Insert.{form_fault}
use Rattle.batch.specs.Steps.{Tells}
use Rattle.batch.proofs.first_failing.Given as goal

abbrev pub invariant-loop-i : goal.invariant-loop-i
invariant-loop-i g l =
    (ok : Datom → Bool) (bad : ℕ → Refusal) → Tells (goal.F-post g l.test) ok →
    form_fault bad ok 0 (datoms_of l.n l.b) ≡ form_fault bad ok l.i (drop l.i (datoms_of l.n l.b))
