-- What an entry answers and leaves, against the outcome of the rules.
use Rattle.answer.specs.Answers.{Answer, done_with}
use Rattle.std.specs.Prelude.{ℕ, ◌*◌, List, [], ◌≡◌, refl, length, Result, Ok, Err}
use Rattle.std.proofs.Common.{add-zero, zero-add, sym, ◌∙◌, ap}
use Rattle.store.specs.declared.PageId.{PageId}
use Rattle.store.specs.declared.Extent.{Extent}
use Rattle.store.specs.Words.{spread, patch}
use Rattle.answer.specs.declared.Refusal.{Refusal}
use Rattle.rules.specs.Page.{Node}
use Rattle.rules.specs.Tree.{Stage}
use Rattle.rules.specs.Store.{store_after}
use Rattle.rules.specs.Insert.{Outcome, refuse, outcome}
use Rattle.htree.specs.declared.place.Failed.{Failed}
use Rattle.htree.specs.declared.root.Rooted.{Rooted}
use Rattle.htree.specs.Wrote.{Wrote, pages_bytes}
use Rattle.store.specs.Cells.{patch_none}
use Rattle.htree.specs.Root.{RootTold, root_at, root_not}

-- the answer, and every byte of the store
pub record Replies (x : Extent) (s s₁ : List ℕ) (r : Answer) (o : Outcome) : Type 0 where
  pub answer : r ≡ o.answer
  pub store : s₁ ≡ store_after x s o.pages

-- two results that meet a promise are equal
pub replies_same : (x : Extent) (s s₁ s₂ : List ℕ) (r₁ r₂ : Answer) (o : Outcome) → Replies x s s₁ r₁ o → Replies x s s₂ r₂ o → (r₁ ≡ r₂) × (s₁ ≡ s₂)
replies_same x s s₁ s₂ r₁ r₂ o A B = (A.answer ∙ sym B.answer, A.store ∙ sym B.store)

-- the answer to what was written
unfoldable pub answer_of : Result Rooted Failed → Answer
answer_of (Ok r) = done_with r.root r.written
answer_of (Err f) = Err f.refusal

-- a refusal before anything is written leaves every byte
pub replies_refused : (x : Extent) (s : List ℕ) (r : Refusal) (o : Outcome) → o ≡ refuse r → Replies x s s (Err r) o
unfolding store_after spread
replies_refused x s r o e = rw e (record { answer = refl; store = sym (patch_none s (x.count * x.size)) })

-- pages written from none on are those of the outcome
after_none : (x : Extent) (s s₁ : List ℕ) (new : List Node) → Wrote x s 0 new s₁ → s₁ ≡ store_after x s new
unfolding store_after
after_none x s s₁ new W = W.bytes ∙ ap (λ (k : ℕ). patch s (k * x.size) (pages_bytes x new)) (add-zero x.count)

pub replies : (x : Extent) (s s₁ : List ℕ) (r : Result Rooted Failed) (t : Stage PageId) → RootTold x s s₁ [] r t → Replies x s s₁ (answer_of r) (outcome t)
unfolding answer_of outcome
replies x s s₁ r t (root_at {id = id} new W) = record { answer = ap (done_with id) (zero-add (length new)); store = after_none x s s₁ new W }
replies x s s₁ r t (root_not new W) = record { answer = refl; store = after_none x s s₁ new W }
