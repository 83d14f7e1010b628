-- Which cursors words of 64 bits hold: those that come back from their bytes.
use Rattle.std.specs.Prelude.{ℕ, ◌^◌, ◌<◌, List, ◌≡◌, length, get_or}
use Rattle.store.specs.declared.PageId.{PageId}
use Rattle.answer.specs.declared.Cursor.{Cursor}

-- eight things, and each is a word
abbrev pub Eight : {A : Type 0} → (A → ℕ) → List A → Type 0
Eight {A} word xs = (length xs ≡ 8) × ((i : ℕ) (d : A) → i < length xs → word (get_or xs i d) < 2 ^ 64)

-- the height, the indices and the page ids are words, eight of each for each end
pub record CursorFits (c : Cursor) : Type 0 where
  pub height : c.height < 2 ^ 64
  pub begin_indices_fit : Eight (λ (n : ℕ). n) c.begin_indices
  pub begin_pages_fit : Eight (λ (p : PageId). p.0) c.begin_pages
  pub end_indices_fit : Eight (λ (n : ℕ). n) c.end_indices
  pub end_pages_fit : Eight (λ (p : PageId). p.0) c.end_pages
