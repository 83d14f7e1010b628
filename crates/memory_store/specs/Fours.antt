-- What the reader's tests of four datoms, or four children, at once say of the list.
use Rattle.std.specs.Prelude.{◌≡◌, ℕ, ◌+◌, ◌*◌, ◌^◌, ◌<◌, ◌≤◌, true, false, ◌⊎◌, List, drop}
use native.Mathlib.Omega.{arith}
use Rattle.std.proofs.Common.{inl, inr, sym, ◌∙◌}
use Rattle.store.specs.declared.PageId.{PageId}
use Rattle.store.specs.Words.{word_at, cells}
use Rattle.store.specs.Page.{page, page_of}
use Rattle.store.specs.Cells.{pages_from}
use Rattle.store.specs.Laws.{apart}
use Rattle.datom.specs.declared.Datom.{Datom}
use Rattle.datom.specs.Datom.{datom_at, datoms_of}
use Rattle.datom.specs.Laws.{datoms_from}
use Rattle.index.specs.declared.Index.{Index}
use Rattle.index.specs.declared.Index.TheVariants.{Eavt, Aevt, Avet}
use Rattle.index.specs.Order.{DatomOrd, is_less, order_in}
use Rattle.index.specs.Parts.{place_of, word_there_law, first, second, SecondTells}
use Rattle.index.proofs.Ways.{less_first, less_two}
use Rattle.index.specs.Named.{less_named}
use Rattle.rules.specs.Page.{all, rising, older}
use Rattle.memory_store.specs.Steps.{all_on, rising_on}
use Rattle.memory_store.specs.Rises.{word_behind}

-- the datom at byte `at` is below the one behind it; so are four
abbrev pub Rises : DatomOrd → List ℕ → ℕ → Type 0
Rises t s at = is_less (t.cmp (datom_at s at) (datom_at s (at + 32))) ≡ true

abbrev pub FourRise : DatomOrd → List ℕ → ℕ → Type 0
FourRise t s at = Rises t s at × Rises t s (at + 32) × Rises t s (at + 64) × Rises t s (at + 96)

-- the values of four datoms are integers
abbrev pub FourIntegers : List ℕ → ℕ → Type 0
FourIntegers s at =
    (word_at s (at + 16) < 2 ^ 62) × (word_at s (at + 48) < 2 ^ 62) × (word_at s (at + 80) < 2 ^ 62) × (word_at s (at + 112) < 2 ^ 62)

-- a word at p is below the one in the next datom, or is the same and one at q is; so of four
abbrev pub WordsRise : List ℕ → ℕ → ℕ → Type 0
WordsRise s p q = (word_at s p < word_at s (p + 32)) ⊎ ((word_at s p ≡ word_at s (p + 32)) × (word_at s q < word_at s (q + 32)))

abbrev pub FourWordsRise : List ℕ → ℕ → ℕ → Type 0
FourWordsRise s p q = WordsRise s p q × WordsRise s (p + 32) (q + 32) × WordsRise s (p + 64) (q + 64) × WordsRise s (p + 96) (q + 96)

-- four children are none or below id
abbrev pub FourOlder : PageId → List ℕ → ℕ → Type 0
FourOlder id s at =
    (older id (page (word_at s at)) ≡ true) × (older id (page (word_at s (at + 8))) ≡ true) × (older id (page (word_at s (at + 16))) ≡ true)
    × (older id (page (word_at s (at + 24))) ≡ true)

-- an order lets every inline integer be stored
abbrev pub LetsPlain : DatomOrd → Type 0
LetsPlain t = (d : Datom) → d.value.0 < 2 ^ 62 → t.stored d ≡ true

-- the rules of form and order say the same of the k datoms from index i on as from index j on
abbrev pub SameFrom : DatomOrd → ℕ → List ℕ → ℕ → ℕ → Type 0
SameFrom t k s i j =
    (all t.stored (drop i (datoms_of k s)) ≡ all t.stored (drop j (datoms_of k s)))
    × (rising t.cmp (drop i (datoms_of k s)) ≡ rising t.cmp (drop j (datoms_of k s)))

-- a test that failed says nothing
pub never : {A : Type 0} → false ≡ true → A
never e = absurd (apart (cc))

-- by the first two words of an order, which stand at p and q
module _ (i : Index) (h s : List ℕ) (at p q : ℕ) (e : p ≡ at + place_of (first i)) (f : q ≡ at + place_of (second i)) where
  pair_rises : SecondTells i (datom_at s at) (datom_at s (at + 32)) → WordsRise s p q → Rises (order_in i h) s at
  pair_rises t (inl l) =
      (less_named _ (sym (less_first i h (datom_at s at) (datom_at s (at + 32)) (rw (word_there_law s at (first i), word_behind s at (first i), ← e) l)))).0
  pair_rises t (inr l) =
      (less_named _
      (sym
      (less_two i h (datom_at s at) (datom_at s (at + 32)) t (rw (word_there_law s at (first i), word_behind s at (first i), ← e) l.0)
      (rw (word_there_law s at (second i), word_behind s at (second i), ← f) l.1)))).0

-- four of them, in each order
module _ (h s : List ℕ) (at : ℕ) where
  pub four_eavt : FourWordsRise s at (at + 8) → FourRise (order_in Eavt h) s at
  four_eavt w = (
    pair_rises Eavt h s at _ _ (omega arith) (omega arith) tt w.0,
    pair_rises Eavt h s (at + 32) _ _ (omega arith) (omega arith) tt w.1,
    pair_rises Eavt h s (at + 64) _ _ (omega arith) (omega arith) tt w.2,
    pair_rises Eavt h s (at + 96) _ _ (omega arith) (omega arith) tt w.3,
  )

  pub four_aevt : FourWordsRise s (at + 8) at → FourRise (order_in Aevt h) s at
  four_aevt w = (
    pair_rises Aevt h s at _ _ (omega arith) (omega arith) tt w.0,
    pair_rises Aevt h s (at + 32) _ _ (omega arith) (omega arith) tt w.1,
    pair_rises Aevt h s (at + 64) _ _ (omega arith) (omega arith) tt w.2,
    pair_rises Aevt h s (at + 96) _ _ (omega arith) (omega arith) tt w.3,
  )

  -- by value: those of all five are integers
  pub four_avet : FourIntegers s at → word_at s (at + 144) < 2 ^ 62 → FourWordsRise s (at + 8) (at + 16) → FourRise (order_in Avet h) s at
  unfolding datom_at
  four_avet v z w =
      let a : at + 32 + 16 ≡ at + 48 = omega arith in
      let b : at + 32 + 32 + 16 ≡ at + 80 = omega arith in
      let c : at + 64 + 16 ≡ at + 80 = omega arith in
      let d : at + 64 + 32 + 16 ≡ at + 112 = omega arith in
      let e : at + 96 + 16 ≡ at + 112 = omega arith in
      let f : at + 96 + 32 + 16 ≡ at + 144 = omega arith in (
        pair_rises Avet h s at _ _ (omega arith) (omega arith) (v.0, rw a v.1) w.0,
        pair_rises Avet h s (at + 32) _ _ (omega arith) (omega arith) (rw a v.1, rw b v.2) w.1,
        pair_rises Avet h s (at + 64) _ _ (omega arith) (omega arith) (rw c v.2, rw d v.3) w.2,
        pair_rises Avet h s (at + 96) _ _ (omega arith) (omega arith) (rw e v.3, rw f z) w.3,
      )

-- of an order that lets every inline integer be stored
module _ (t : DatomOrd) (plain : LetsPlain t) (k : ℕ) (s : List ℕ) where
  -- one datom further: it lies at byte a, its value at byte v
  plain_on : (i j a v : ℕ) → j ≡ i + 1 → a ≡ 32 * i → v ≡ 32 * i + 16 → j < k → Rises t s a → word_at s v < 2 ^ 62 → SameFrom t k s i j
  unfolding datom_at
  plain_on i j a v e ea ev h l f =
      rw e (
        all_on t.stored (datoms_from k i s (omega arith)) (plain (datom_at s (32 * i)) (rw ev at f)),
        rising_on t.cmp k i s (omega arith) (rw ea at l),
      )

  -- four datoms further
  pub four_on : (i : ℕ) → i + 4 < k → FourRise t s (32 * i) → FourIntegers s (32 * i) → SameFrom t k s i (i + 4)
  four_on i h u v =
      let p = plain_on i (i + 1) _ _ (omega arith) (omega arith) (omega arith) (omega arith) u.0 v.0 in
      let q = plain_on (i + 1) (i + 2) _ _ (omega arith) (omega arith) (omega arith) (omega arith) u.1 v.1 in
      let r = plain_on (i + 2) (i + 3) _ _ (omega arith) (omega arith) (omega arith) (omega arith) u.2 v.2 in
      let w = plain_on (i + 3) (i + 4) _ _ (omega arith) (omega arith) (omega arith) (omega arith) u.3 v.3 in
      (p.0 ∙ q.0 ∙ r.0 ∙ w.0, p.1 ∙ q.1 ∙ r.1 ∙ w.1)

module _ (id : PageId) (n at : ℕ) (s : List ℕ) where
  older_next :
      (i j a : ℕ) → j ≡ i + 1 → a ≡ at + 8 * i → i < n → older id (page (word_at s a)) ≡ true →
      all (older id) (drop i (cells page_of 8 n (drop at s))) ≡ all (older id) (drop j (cells page_of 8 n (drop at s)))
  older_next i j a e ea h o = rw e (all_on (older id) (pages_from n i at s h) (rw ea at o))

  -- four children further
  pub older_on :
      (i : ℕ) → i + 4 ≤ n → FourOlder id s (at + 8 * i) →
      all (older id) (drop i (cells page_of 8 n (drop at s))) ≡ all (older id) (drop (i + 4) (cells page_of 8 n (drop at s)))
  older_on i h o =
      older_next i (i + 1) _ (omega arith) (omega arith) (omega arith) o.0
      ∙ older_next (i + 1) (i + 2) _ (omega arith) (omega arith) (omega arith) o.1
      ∙ older_next (i + 2) (i + 3) _ (omega arith) (omega arith) (omega arith) o.2
      ∙ older_next (i + 3) (i + 4) _ (omega arith) (omega arith) (omega arith) o.3
