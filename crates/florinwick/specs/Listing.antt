-- What the entries of a listing return and leave: the answer's words, the cursor's bytes, and the datom that a step yields.
use Rattle.std.specs.Prelude.{Ok, Some, None}
use Rattle.std.specs.Prelude.{Err, Ok}
use Rattle.std.specs.Prelude.{ℕ, false, ◌&&◌, not, cond, List, ◌≡◌, eqb, length}
use Rattle.std.proofs.Common.{append-nil, sym, ◌∙◌}
use borrow.Author.Tests.{eq-eqb, ne_eqb}
use Rattle.store.specs.declared.PageId.{PageId}
use Rattle.store.specs.declared.StoreRecord.{StoreRecord}
use Rattle.store.specs.Words.{spread}
use Rattle.datom.specs.declared.Datom.{Datom}
use Rattle.datom.specs.Datom.{datom_at, datom_bytes}
use Rattle.answer.specs.declared.Refusal.TheVariants.{BadStore, BadBound}
use Rattle.answer.specs.declared.Started.{Started}
use Rattle.answer.specs.declared.Stepped.{Stepped}
use Rattle.answer.specs.Table.{start_words, step_words, refused_words}
use Rattle.rules.specs.Store.{refuse_if, or_else}
use Rattle.rules.specs.Entry.{word_bytes}
use Rattle.rules.specs.Listing.{refuse_start, refuse_step}
use Rattle.rules.specs.Calls.{record_fault, bad_pages, start_call, step_call}
use Rattle.florinwick.specs.Words.{WordsIn, words, AreaReplied, not_answered, answered, area_replied_same}
use Rattle.florinwick.specs.Cursor.{cursor_bytes, cursor_in}

-- a bound in bytes: a length other than 32 is no bound, so it is 10, and "checks 1, 10, 5", with 13 behind 1, keeps its order
unfoldable pub start_bounded : StoreRecord → List ℕ → List ℕ → PageId → List ℕ → List ℕ → Started
start_bounded q s h root lower upper =
    or_else refuse_start (refuse_if (not (eqb (length lower) 32 && eqb (length upper) 32)) BadBound)
    (start_call q s h root (datom_at lower 0) (datom_at upper 0))

unfoldable pub start_bytes : StoreRecord → List ℕ → List ℕ → PageId → List ℕ → List ℕ → Started
start_bytes q s h root lower upper = or_else refuse_start (record_fault q h (bad_pages q s)) (start_bounded q s h root lower upper)

-- a cursor area of a length other than 264 is 1
unfoldable pub start_in : StoreRecord → List ℕ → List ℕ → PageId → List ℕ → List ℕ → List ℕ → Started
start_in q s h root lower upper c = cond (eqb (length c) 264) (start_bytes q s h root lower upper) (refuse_start BadStore)

-- the cursor area after a start: one that is refused leaves it as it was
unfoldable pub cursor_started : List ℕ → Started → List ℕ
cursor_started c b = elim b.answer [ Ok u ↦ cursor_bytes b.cursor | Err r ↦ c ]

-- a cursor area of a length other than 264, or a datom area of a length other than 32, is 1
unfoldable pub step_in : StoreRecord → List ℕ → List ℕ → List ℕ → List ℕ → Stepped
step_in q s h c d =
    cond (eqb (length c) 264 && eqb (length d) 32) (step_call q s h (cursor_in c)) (refuse_step (cursor_in c) BadStore)

-- "An ended or refused step returns its cursor unchanged", and no datom
unfoldable pub cursor_stepped : List ℕ → Stepped → List ℕ
cursor_stepped c k = elim k.answer [ Ok (Some d) ↦ cursor_bytes k.cursor | Ok None ↦ c | Err r ↦ c ]

unfoldable pub datom_stepped : List ℕ → Stepped → List ℕ
datom_stepped e k = elim k.answer [ Ok (Some d) ↦ datom_bytes d | Ok None ↦ e | Err r ↦ e ]

-- without an area for its answer a call changes nothing
abbrev pub when_answered : List ℕ → List ℕ → List ℕ → List ℕ
when_answered a new old = cond (eqb (length a) 32) new old

-- what a start returned and left
pub record Begins (r : ℕ) (a a₁ c c₁ : List ℕ) (root : PageId) (b : Started) : Type 0 where
  pub answer : AreaReplied r a a₁ (start_words root b.answer)
  pub cursor : c₁ ≡ when_answered a (cursor_started c b) c

-- what a step returned and left
pub record Steps (r : ℕ) (a a₁ c c₁ e e₁ : List ℕ) (k : Stepped) : Type 0 where
  pub answer : AreaReplied r a a₁ (step_words k.answer)
  pub cursor : c₁ ≡ when_answered a (cursor_stepped c k) c
  pub datom : e₁ ≡ when_answered a (datom_stepped e k) e

-- two results that meet them are equal
pub begins_same :
    (r₁ r₂ : ℕ) (a a₁ a₂ c c₁ c₂ : List ℕ) (root : PageId) (b : Started) → Begins r₁ a a₁ c c₁ root b → Begins r₂ a a₂ c c₂ root b →
    ((r₁ ≡ r₂) × (a₁ ≡ a₂)) × (c₁ ≡ c₂)
begins_same r₁ r₂ a a₁ a₂ c c₁ c₂ root b A B =
    (area_replied_same r₁ r₂ a a₁ a₂ (start_words root b.answer) A.answer B.answer, A.cursor ∙ sym B.cursor)

pub steps_same :
    (r₁ r₂ : ℕ) (a a₁ a₂ c c₁ c₂ e e₁ e₂ : List ℕ) (k : Stepped) → Steps r₁ a a₁ c c₁ e e₁ k → Steps r₂ a a₂ c c₂ e e₂ k →
    ((r₁ ≡ r₂) × (a₁ ≡ a₂)) × ((c₁ ≡ c₂) × (e₁ ≡ e₂))
steps_same r₁ r₂ a a₁ a₂ c c₁ c₂ e e₁ e₂ k A B =
    (area_replied_same r₁ r₂ a a₁ a₂ (step_words k.answer) A.answer B.answer, (A.cursor ∙ sym B.cursor, A.datom ∙ sym B.datom))

-- the start between two bounds in bytes, in the order of its refusals
module _ (q : StoreRecord) (s h : List ℕ) (root : PageId) (lower upper : List ℕ) where
  pub lower_short : (length lower ≡ 32 → ⊥) → refuse_start BadBound ≡ start_bounded q s h root lower upper
  unfolding start_bounded
  lower_short n = rw (ne_eqb (length lower) 32 n)

  pub upper_short : length lower ≡ 32 → (length upper ≡ 32 → ⊥) → refuse_start BadBound ≡ start_bounded q s h root lower upper
  unfolding start_bounded
  upper_short l n = rw (eq-eqb (length lower) 32 l, ne_eqb (length upper) 32 n)

  pub bounds_given :
      length lower ≡ 32 → length upper ≡ 32 → start_call q s h root (datom_at lower 0) (datom_at upper 0) ≡ start_bounded q s h root lower upper
  unfolding start_bounded
  bounds_given l u = rw (eq-eqb (length lower) 32 l, eq-eqb (length upper) 32 u)

  pub start_unanswered :
      (a c : List ℕ) → (length a ≡ 32 → ⊥) → Begins 1 a a c c root (start_in q s h root lower upper c)
  start_unanswered a c n = record { answer = not_answered a _ n; cursor = rw (ne_eqb (length a) 32 n) }

  pub start_unkept :
      (r : ℕ) (a a₁ c : List ℕ) → length a ≡ 32 → (length c ≡ 264 → ⊥) → r ≡ (refused_words root.0 BadStore).number →
      WordsIn (refused_words root.0 BadStore) a₁ → Begins r a a₁ c c root (start_in q s h root lower upper c)
  unfolding start_in cursor_started
  start_unkept r a a₁ c h n e T =
      rw (ne_eqb (length c) 264 n) (record { answer = answered r a a₁ _ h e T; cursor = rw (eq-eqb (length a) 32 h) })

  pub start_kept :
      (r : ℕ) (a a₁ c c₁ : List ℕ) (b : Started) → length a ≡ 32 → length c ≡ 264 → b ≡ start_bytes q s h root lower upper →
      r ≡ (start_words root b.answer).number → WordsIn (start_words root b.answer) a₁ → c₁ ≡ cursor_started c b →
      Begins r a a₁ c c₁ root (start_in q s h root lower upper c)
  unfolding start_in
  start_kept r a a₁ c c₁ b h n g e T k =
      rw (eq-eqb (length c) 264 n, ← g) (record { answer = answered r a a₁ _ h e T; cursor = rw (eq-eqb (length a) 32 h) k })

-- a step, in the order of its refusals
module _ (q : StoreRecord) (s h a c e : List ℕ) where
  pub step_unanswered : (length a ≡ 32 → ⊥) → Steps 1 a a c c e e (step_in q s h c e)
  step_unanswered h = record { answer = not_answered a _ h; cursor = rw (ne_eqb (length a) 32 h); datom = rw (ne_eqb (length a) 32 h) }

  unkept :
      (r : ℕ) (a₁ : List ℕ) → length a ≡ 32 → (eqb (length c) 264 && eqb (length e) 32) ≡ false → r ≡ (refused_words 0 BadStore).number →
      WordsIn (refused_words 0 BadStore) a₁ → Steps r a a₁ c c e e (step_in q s h c e)
  unfolding step_in cursor_stepped datom_stepped
  unkept r a₁ h n v T =
      rw n (record { answer = answered r a a₁ _ h v T; cursor = rw (eq-eqb (length a) 32 h); datom = rw (eq-eqb (length a) 32 h) })

  pub step_no_cursor :
      (r : ℕ) (a₁ : List ℕ) → length a ≡ 32 → (length c ≡ 264 → ⊥) → r ≡ (refused_words 0 BadStore).number →
      WordsIn (refused_words 0 BadStore) a₁ → Steps r a a₁ c c e e (step_in q s h c e)
  step_no_cursor r a₁ h n v T = unkept r a₁ h (rw (ne_eqb (length c) 264 n)) v T

  pub step_no_datom :
      (r : ℕ) (a₁ : List ℕ) → length a ≡ 32 → length c ≡ 264 → (length e ≡ 32 → ⊥) → r ≡ (refused_words 0 BadStore).number →
      WordsIn (refused_words 0 BadStore) a₁ → Steps r a a₁ c c e e (step_in q s h c e)
  step_no_datom r a₁ h n m v T = unkept r a₁ h (rw (eq-eqb (length c) 264 n, ne_eqb (length e) 32 m)) v T

  pub step_kept :
      (r : ℕ) (a₁ c₁ e₁ : List ℕ) (k : Stepped) → length a ≡ 32 → length c ≡ 264 → length e ≡ 32 → k ≡ step_call q s h (cursor_in c) →
      r ≡ (step_words k.answer).number → WordsIn (step_words k.answer) a₁ → c₁ ≡ cursor_stepped c k → e₁ ≡ datom_stepped e k →
      Steps r a a₁ c c₁ e e₁ (step_in q s h c e)
  unfolding step_in
  step_kept r a₁ c₁ e₁ k h n m g v T i j =
      rw (eq-eqb (length c) 264 n, eq-eqb (length e) 32 m, ← g)
      (record { answer = answered r a a₁ _ h v T; cursor = rw (eq-eqb (length a) 32 h) i; datom = rw (eq-eqb (length a) 32 h) j })

-- the four words of a datom are its bytes
pub datom_told : (d : Datom) (a : List ℕ) → WordsIn (words d.entity.0 d.attribute.0 d.value.0 d.transaction_operation.0) a → a ≡ datom_bytes d
unfolding word_bytes spread datom_bytes
datom_told d a T = T.bytes ∙ rw append-nil
