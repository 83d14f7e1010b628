-- What an append returns and leaves: the answer's words, and every byte of the heap's slice.
use Rattle.answer.specs.Answers.{Append}
use Rattle.std.specs.Prelude.{ℕ, List, ◌≡◌, length}
use Rattle.std.proofs.Common.{sym, ◌∙◌, eq-eqb, ne_eqb}
use Rattle.answer.specs.Table.{append_words}
use Rattle.rules.specs.Append.{Appending, heap_after}
use Rattle.append.specs.Answers.{Appends}
use Rattle.florinwick.specs.Words.{WordsIn, AreaReplied, area_replied_same, not_answered, answered}
use Rattle.florinwick.specs.Listing.{when_answered}

-- what an append at heap length n returned and left
pub record HeapReplied (r : ℕ) (a a₁ h h₁ : List ℕ) (n : ℕ) (w : Appending) : Type 0 where
  pub answer : AreaReplied r a a₁ (append_words w.answer)
  pub heap : h₁ ≡ when_answered a (heap_after h n w) h

-- two results that meet it are equal
pub heap_replied_same :
    (r₁ r₂ : ℕ) (a a₁ a₂ h h₁ h₂ : List ℕ) (n : ℕ) (w : Appending) → HeapReplied r₁ a a₁ h h₁ n w → HeapReplied r₂ a a₂ h h₂ n w →
    ((r₁ ≡ r₂) × (a₁ ≡ a₂)) × (h₁ ≡ h₂)
heap_replied_same r₁ r₂ a a₁ a₂ h h₁ h₂ n w A B =
    (area_replied_same r₁ r₂ a a₁ a₂ (append_words w.answer) A.answer B.answer, A.heap ∙ sym B.heap)

module _ (a h : List ℕ) (n : ℕ) (w : Appending) where
  pub append_unanswered : (length a ≡ 32 → ⊥) → HeapReplied 1 a a h h n w
  append_unanswered e = record { answer = not_answered a _ e; heap = rw (ne_eqb (length a) 32 e) }

  pub append_answered :
      (r : ℕ) (a₁ h₁ : List ℕ) (q : Append) → length a ≡ 32 → Appends h h₁ n q w → r ≡ (append_words q).number → WordsIn (append_words q) a₁ →
      HeapReplied r a a₁ h h₁ n w
  append_answered r a₁ h₁ q e A v T =
      record { answer = rw (← A.answer) (answered r a a₁ (append_words q) e v T); heap = rw (eq-eqb (length a) 32 e) A.heap }
