-- The steps that a C program takes from the bytes of a cursor hand out what the rules' steps hand out. Rests on Called.
use Rattle.std.specs.Prelude.{Ok, Some, None}
use Rattle.std.specs.Prelude.{Err}
use Rattle.answer.specs.Answers.{Step as StepAnswer, ended_step, yielding}
use Rattle.std.specs.Prelude.{ℕ, zero, suc, List, [], ◌∷◌, ◌≡◌, refl, length}
use Rattle.std.proofs.Common.{sym}
use borrow.Author.Tests.{eq-eqb}
use Rattle.store.specs.Laws.{apart}
use Rattle.datom.specs.declared.Datom.{Datom}
use Rattle.datom.specs.Datom.{datom_bytes}
use Rattle.answer.specs.declared.Cursor.{Cursor}
use Rattle.answer.specs.declared.Stepped.{Stepped}
use Rattle.answer.specs.Table.{step_words}
use Rattle.answer.specs.Fit.{CursorFits}
use Rattle.rules.specs.Listing.{Listed, whole, cut, more, also}
use Rattle.rules.specs.Calls.{step_call}
use Rattle.florinwick.specs.Cursor.{cursor_bytes, cursor_long, cursor_back}
use Rattle.florinwick.specs.Record.{record_in}
use Rattle.florinwick.specs.Listing.{step_in, cursor_stepped, datom_stepped, Steps}
use Rattle.history.specs.Statement.{Moment, StepsAlong, handed}
use Rattle.history.specs.More.{AllFit}
use Rattle.demand.specs.Caller.{StepBytes, StepTaken, StepsTaken, Heard}

-- what the rules' steps give, one after the other
abbrev pub following : (ℕ → Moment) → Cursor → ℕ → Stepped
following at c zero = step_call (at 0).recorded (at 0).store (at 0).heap c
following at c (suc i) = following (λ j. at (suc j)) (step_call (at 0).recorded (at 0).store (at 0).heap c).cursor i

pub following_steps : (n : ℕ) (at : ℕ → Moment) (c : Cursor) → StepsAlong at n c (following at c)
following_steps zero at c = tt
following_steps (suc n) at c = (refl, following_steps n (λ j. at (suc j)) (step_call (at 0).recorded (at 0).store (at 0).heap c).cursor)

-- what stands behind the first datom that was handed out
also_whole : (d : Datom) (l : Listed) (ds : List Datom) → also d l ≡ whole ds → (rest : List Datom) × (l ≡ whole rest) × (ds ≡ d ∷ rest)
also_whole d (whole rest) ds e = (rest, refl, sym (cc))
also_whole d (cut r rest) ds e = absurd (apart (cc))
also_whole d (more rest) ds e = absurd (apart (cc))

-- a step by its bytes is the rules' step
module _ (m : Moment) (c : Cursor) (F : CursorFits c) (s : StepBytes) (T : StepTaken m (cursor_bytes c) s) where
  abbrev ruled : Stepped
  ruled = step_call m.recorded m.store m.heap c

  step_is : step_in (record_in T.block) m.store m.heap (cursor_bytes c) T.room ≡ ruled
  unfolding step_in
  step_is =
      rw (T.lends, eq-eqb (length (cursor_bytes c)) 264 (cursor_long c F), eq-eqb (length T.room) 32 T.datoms, cursor_back c F)

  by_bytes : Steps s.number T.area T.told (cursor_bytes c) s.cursor T.room s.datom ruled
  by_bytes = rw step_is at T.steps

  number_is : s.number ≡ (step_words ruled.answer).number
  number_is = rw (eq-eqb (length T.area) 32 T.answers) at by_bytes.answer.returns

  module _ (d : Datom) (e : ruled.answer ≡ yielding d) where
    cursor_is : s.cursor ≡ cursor_bytes ruled.cursor
    unfolding cursor_stepped
    cursor_is = rw (eq-eqb (length T.area) 32 T.answers, e) at by_bytes.cursor

    datom_is : s.datom ≡ datom_bytes d
    unfolding datom_stepped
    datom_is = rw (eq-eqb (length T.area) 32 T.answers, e) at by_bytes.datom

pub heard :
    (n : ℕ) (at : ℕ → Moment) (c : Cursor) → CursorFits c → AllFit n (following at c) → (ds : List Datom) → handed n (following at c) ≡ whole ds →
    (w : ℕ → StepBytes) → StepsTaken at n (cursor_bytes c) w → Heard ds w
unfolding handed
heard zero at c F A ds e w T = absurd (apart (cc))
heard (suc n) at c F A ds e w T =
    side (following at c 0).answer refl (heard n (λ j. at (suc j)) (following at c 0).cursor A.0 A.1)
  where
    side :
        (a : StepAnswer) → (following at c 0).answer ≡ a →
        ((ds : List Datom) → handed n (λ i. following at c (suc i)) ≡ whole ds → (v : ℕ → StepBytes) →
        StepsTaken (λ j. at (suc j)) n (cursor_bytes (following at c 0).cursor) v → Heard ds v) →
        Heard ds w
    side (Ok (Some d)) q ih =
        let k : also d (handed n (λ i. following at c (suc i))) ≡ whole ds = rw (q, handed) at e in
        let z = also_whole d (handed n (λ i. following at c (suc i))) ds k in
        rw z.2 (
          rw q at (number_is (at 0) c F (w 0) T.0),
          datom_is (at 0) c F (w 0) T.0 d q,
          ih z.0 z.1 (λ i. w (suc i)) (rw (cursor_is (at 0) c F (w 0) T.0 d q) at T.1),
        )
    side (Ok None) q ih =
        let k : whole [] ≡ whole ds = rw (q, handed) at e in
        let z : ds ≡ [] = sym (cc) in
        rw z (rw q at (number_is (at 0) c F (w 0) T.0))
    side (Err r) q ih = let k : cut r [] ≡ whole ds = rw (q, handed) at e in absurd (apart (cc))
