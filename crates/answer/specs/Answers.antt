-- The answers by their names in the documents.
use Rattle.std.specs.Prelude.{ℕ, ⊤, Option, Some, None, Result, Ok, Err, ◌≡◌}
use Rattle.std.proofs.Common.{ap}
use Rattle.store.specs.declared.PageId.{PageId}
use Rattle.datom.specs.declared.Datom.{Datom}
use Rattle.datom.specs.declared.Value.{Value}
use Rattle.answer.specs.declared.Fault.{Fault}
use Rattle.answer.specs.declared.Refusal.{Refusal}
use Rattle.answer.specs.declared.Done.{Done}
use Rattle.answer.specs.declared.Stored.{Stored}
use Rattle.answer.specs.declared.Flaw.{Flaw}
use Rattle.answer.specs.declared.Flaw.TheVariants.{Unsound, Refused}

-- of an insert or an initialise: "Done carries the root and the number of pages written"
abbrev pub Answer : Type 0
Answer = Result Done Refusal

abbrev pub done_with : PageId → ℕ → Answer
done_with root pages = Ok (record { root = root; pages = pages })

-- of an append
abbrev pub Append : Type 0
Append = Result Stored Refusal

abbrev pub stored_as : Value → ℕ → Append
stored_as value bytes = Ok (record { value = value; bytes = bytes })

-- of the calls that have nothing to hand out
abbrev pub Held : Type 0
Held = Result ⊤ Refusal

abbrev pub all_held : Held
all_held = Ok tt

abbrev pub Fetch : Type 0
Fetch = Result ⊤ Refusal

abbrev pub page_given : Fetch
page_given = Ok tt

abbrev pub Start : Type 0
Start = Result ⊤ Refusal

abbrev pub has_begun : Start
has_begun = Ok tt

-- of a step: a datom, or the end
abbrev pub Step : Type 0
Step = Result (Option Datom) Refusal

abbrev pub yielding : Datom → Step
yielding d = Ok (Some d)

abbrev pub ended_step : Step
ended_step = Ok None

-- of the check: Sound, or not
abbrev pub Check : Type 0
Check = Result ⊤ Flaw

abbrev pub is_sound : Check
is_sound = Ok tt

abbrev pub unsound_at : PageId → Fault → Check
unsound_at page fault = Err (Unsound page fault)

abbrev pub unchecked : Refusal → Check
unchecked r = Err (Refused r)

-- what one answer says of another
pub same_done : {p q : PageId} {m n : ℕ} → done_with p m ≡ done_with q n → (p ≡ q) × (m ≡ n)
same_done {p} {q} {m} {n} e =
    let d : ◌≡◌ {A = Done} (record { root = p; pages = m }) (record { root = q; pages = n }) = cc in
    (ap (λ (d : Done). d.root) d, ap (λ (d : Done). d.pages) d)

pub same_stored : {v w : Value} {j k : ℕ} → stored_as v j ≡ stored_as w k → (v ≡ w) × (j ≡ k)
same_stored {v} {w} {j} {k} e =
    let s : ◌≡◌ {A = Stored} (record { value = v; bytes = j }) (record { value = w; bytes = k }) = cc in
    (ap (λ (s : Stored). s.value) s, ap (λ (s : Stored). s.bytes) s)
