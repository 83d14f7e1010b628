-- The answer's four words in their area, and the reply of a call.
use Rattle.answer.specs.Answers.{Answer}
use Rattle.std.specs.Prelude.{ℕ, cond, List, ◌≡◌, refl, eqb, length}
use Rattle.std.proofs.Common.{arith, append-nil, sym, ◌∙◌, ap, eq-eqb, ne_eqb}
use Rattle.store.specs.declared.Extent.{Extent}
use Rattle.store.specs.Words.{bytes_of, spread, patch}
use Rattle.store.specs.Size.{capacity, scratch_need}
use Rattle.answer.specs.Table.{Words}
use Rattle.rules.specs.Insert.{Outcome}
use Rattle.rules.specs.Entry.{word_bytes, Reply, reply_in}
use Rattle.store.specs.Cells.{filled}
use Rattle.entry.specs.Reply.{Replies}
use Rattle.records.specs.Laid.{four_words}

abbrev pub words : ℕ → ℕ → ℕ → ℕ → Words
words number root pages detail = record { number = number; root = root; pages = pages; detail = detail }

-- 0 for a page size that is not known
unfoldable pub need_of : ℕ → ℕ
need_of size = cond (eqb (capacity size) 0) 0 (scratch_need (capacity size))

pub need_none : (size : ℕ) → capacity size ≡ 0 → 0 ≡ need_of size
unfolding need_of
need_none size h = rw (eq-eqb (capacity size) 0 h)

pub need_some : (size : ℕ) → (capacity size ≡ 0 → ⊥) → scratch_need (capacity size) ≡ need_of size
unfolding need_of
need_some size h = rw (ne_eqb (capacity size) 0 h)

-- an area with the words
pub record WordsIn (w : Words) (area : List ℕ) : Type 0 where
  pub bytes : area ≡ word_bytes w

-- what a call returned and left
pub record Replied (r : ℕ) (s a : List ℕ) (y : Reply) : Type 0 where
  pub returns : r ≡ y.returns
  pub store : s ≡ y.store
  pub area : a ≡ y.area

-- two results that meet it are equal
pub replied_same :
    (r₁ r₂ : ℕ) (s₁ s₂ a₁ a₂ : List ℕ) (y : Reply) → Replied r₁ s₁ a₁ y → Replied r₂ s₂ a₂ y → (r₁ ≡ r₂) × (s₁ ≡ s₂) × (a₁ ≡ a₂)
replied_same r₁ r₂ s₁ s₂ a₁ a₂ y A B = (A.returns ∙ sym B.returns, A.store ∙ sym B.store, A.area ∙ sym B.area)

-- the four words fill their area
pub words_put :
    (a : List ℕ) → length a ≡ 32 → (p q r t : ℕ) →
    WordsIn (words p q r t) (patch (patch (patch (patch a 0 (bytes_of 8 p)) 8 (bytes_of 8 q)) 16 (bytes_of 8 r)) 24 (bytes_of 8 t))
unfolding word_bytes spread bytes_of
words_put a full p q r t = record { bytes = four_words a 0 p q r t (omega arith) ∙ filled a _ full ∙ rw append-nil }

-- "An area not 32 bytes long is 1 before all else and stays unchanged."
pub no_area : (w : Answer → Words) (x : Extent) (s a : List ℕ) (o : Outcome) → (length a ≡ 32 → ⊥) → Replied 1 s a (reply_in w x s a o)
unfolding reply_in
no_area w x s a o h = rw (ne_eqb (length a) 32 h) (record { returns = refl; store = refl; area = refl })

pub told_reply :
    (w : Answer → Words) (x : Extent) (s s₁ a a₁ : List ℕ) (o : Outcome) (r : Answer) (v : ℕ) → length a ≡ 32 → Replies x s s₁ r o →
    v ≡ (w r).number → WordsIn (w r) a₁ → Replied v s₁ a₁ (reply_in w x s a o)
unfolding reply_in
told_reply w x s s₁ a a₁ o r v h R e T =
    rw (eq-eqb (length a) 32 h)
    (record {
      returns = e ∙ ap (λ (z : Answer). (w z).number) R.answer;
      store = R.store;
      area = T.bytes ∙ ap (λ (z : Answer). word_bytes (w z)) R.answer;
    })

-- what a call that changes no store returned and left in its answer area
pub record AreaReplied (r : ℕ) (a a₁ : List ℕ) (w : Words) : Type 0 where
  pub returns : r ≡ cond (eqb (length a) 32) w.number 1
  pub area : a₁ ≡ cond (eqb (length a) 32) (word_bytes w) a

pub area_replied_same :
    (r₁ r₂ : ℕ) (a a₁ a₂ : List ℕ) (w : Words) → AreaReplied r₁ a a₁ w → AreaReplied r₂ a a₂ w → (r₁ ≡ r₂) × (a₁ ≡ a₂)
area_replied_same r₁ r₂ a a₁ a₂ w A B = (A.returns ∙ sym B.returns, A.area ∙ sym B.area)

pub not_answered : (a : List ℕ) (w : Words) → (length a ≡ 32 → ⊥) → AreaReplied 1 a a w
not_answered a w h = record { returns = rw (ne_eqb (length a) 32 h); area = rw (ne_eqb (length a) 32 h) }

pub answered : (r : ℕ) (a a₁ : List ℕ) (w : Words) → length a ≡ 32 → r ≡ w.number → WordsIn w a₁ → AreaReplied r a a₁ w
answered r a a₁ w h e T = record { returns = rw (eq-eqb (length a) 32 h) e; area = rw (eq-eqb (length a) 32 h) T.bytes }
