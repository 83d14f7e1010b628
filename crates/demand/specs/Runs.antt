-- Moves between the moments of a history, one after the other.
use Rattle.std.specs.Prelude.{ℕ, ◌*◌, List, ◌≡◌, take}
use Rattle.history.specs.Statement.{Moment}

-- "nobody else writing below it": bytes of the store, and of the heap, that somebody else may leave between two calls
abbrev pub SameBelow : Moment → List ℕ → Type 0
SameBelow m s = take (m.recorded.count * m.recorded.size) s ≡ take (m.recorded.count * m.recorded.size) m.store

abbrev pub SameConstants : Moment → List ℕ → Type 0
SameConstants m h = take m.recorded.heap h ≡ take m.recorded.heap m.heap

-- where somebody else leaves things
abbrev pub changed : Moment → List ℕ → List ℕ → Moment
changed m s h = record { recorded = m.recorded; store = s; heap = h; roots = m.roots }

-- from one moment to another by moves of a kind
pub data Runs (Move : Moment → Moment → Type 0) (m : Moment) : Moment → Type 0 where
  start : Runs Move m m
  then : {m₁ m₂ : Moment} → Runs Move m m₁ → Move m₁ m₂ → Runs Move m m₂
