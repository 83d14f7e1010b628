-- What an append answers and leaves, against the rules.
use Rattle.answer.specs.Answers.{Append}
use Rattle.std.specs.Prelude.{ℕ, List, ◌≡◌}
use Rattle.std.proofs.Common.{sym, ◌∙◌}
use Rattle.rules.specs.Append.{Appending, heap_after}

-- the answer, and every byte of the heap's slice
pub record Appends (h h₁ : List ℕ) (n : ℕ) (r : Append) (a : Appending) : Type 0 where
  pub answer : r ≡ a.answer
  pub heap : h₁ ≡ heap_after h n a

-- two results that meet a promise are equal
pub appends_same : (h h₁ h₂ : List ℕ) (n : ℕ) (r₁ r₂ : Append) (a : Appending) → Appends h h₁ n r₁ a → Appends h h₂ n r₂ a → (r₁ ≡ r₂) × (h₁ ≡ h₂)
appends_same h h₁ h₂ n r₁ r₂ a A B = (A.answer ∙ sym B.answer, A.heap ∙ sym B.heap)
