-- Whether a datom is below the one behind it, by the words where they lie.
use Rattle.std.specs.Prelude.{◌≡◌, ℕ, ◌+◌, Bool, true, false, List, ◌≢◌, nat_lt}
use Prim.Native.Nat.{compare}
use native.Mathlib.Omega.{arith}
use Rattle.std.proofs.Common.{sym, ap, ◌∙◌}
use Rattle.store.specs.Words.{word_at}
use Rattle.datom.specs.Datom.{datom_at}
use Rattle.index.specs.declared.Index.{Index}
use Rattle.index.specs.Order.{Part, and_then, cmp_value, is_less, order_in}
use Rattle.index.specs.Front.{second_decides}
use Rattle.index.specs.Parts.{word_in, place_of, word_there_law, first, second}
use Rattle.index.proofs.Below.{by_first, by_second, by_rest}

-- a part's word of the datom behind the one at byte `at`
pub word_behind : (s : List ℕ) (at : ℕ) (p : Part) → word_in p (datom_at s (at + 32)) ≡ word_at s (at + place_of p + 32)
word_behind s at p = let e : at + 32 + place_of p ≡ at + place_of p + 32 = omega arith in word_there_law s (at + 32) p ∙ ap (word_at s) e

module _ (i : Index) (h s : List ℕ) (at x y : ℕ) (ex : x ≡ word_at s (at + place_of (first i))) (ey : y ≡ word_at s (at + place_of (first i) + 32)) where
  abbrev is_below : Bool
  is_below = is_less ((order_in i h).cmp (datom_at s at) (datom_at s (at + 32)))

  -- the first words
  fx : word_in (first i) (datom_at s at) ≡ x
  fx = word_there_law s at (first i) ∙ sym ex

  fy : word_in (first i) (datom_at s (at + 32)) ≡ y
  fy = word_behind s at (first i) ∙ sym ey

  pub rises_first : (x ≢ y) → nat_lt x y ≡ is_below
  rises_first n = rw (← fx, ← fy) (by_first i h (datom_at s at) (datom_at s (at + 32)) (λ e. n (sym fx ∙ e ∙ fy)))

  module _ (e : x ≡ y) (u v : ℕ) (eu : u ≡ word_at s (at + place_of (second i))) (ev : v ≡ word_at s (at + place_of (second i) + 32)) where
    same : word_in (first i) (datom_at s at) ≡ word_in (first i) (datom_at s (at + 32))
    same = fx ∙ e ∙ sym fy

    fu : word_in (second i) (datom_at s at) ≡ u
    fu = word_there_law s at (second i) ∙ sym eu

    fv : word_in (second i) (datom_at s (at + 32)) ≡ v
    fv = word_behind s at (second i) ∙ sym ev

    pub rises_second : second_decides i u v ≡ true → nat_lt u v ≡ is_below
    rises_second d = rw (← fu, ← fv) (by_second i h (datom_at s at) (datom_at s (at + 32)) same (rw (fu, fv) d))

    pub rises_rest :
        second_decides i u v ≡ false →
        is_less
        (and_then (cmp_value h (record { 0 = word_at s (at + 16) }) (record { 0 = word_at s (at + 48) }))
        (and_then (compare (word_at s at) (word_at s (at + 32))) (compare (word_at s (at + 24)) (word_at s (at + 56)))))
        ≡ is_below
    unfolding datom_at
    rises_rest d =
        let p : at + 48 ≡ at + 32 + 16 = omega arith in
        let q : at + 56 ≡ at + 32 + 24 = omega arith in
        rw (p, q) (by_rest i h (datom_at s at) (datom_at s (at + 32)) same (rw (fu, fv) d))
