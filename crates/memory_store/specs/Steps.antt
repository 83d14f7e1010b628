-- One step of each test along a list, as the reader's loops take it.
use Rattle.std.specs.Prelude.{◌≡◌, ℕ, ◌+◌, ◌*◌, ◌%◌, ◌^◌, ◌<◌, ◌≤◌, Bool, true, false, ◌||◌, List, [], ◌∷◌, drop, ◌==◌, ◌≢◌, nat_le, nat_lt, refl, zero, suc, ◌-◌, ◌&&◌, None, Some, Option, cond, not, map}
use Prim.Native.Nat.{zero-le, Ordering}
use Rattle.std.proofs.Math.Decide.{dec_le}
use native.Mathlib.Omega.{arith}
use Rattle.std.proofs.Math.Bool.{or-false}
use Rattle.std.specs.List.{list_all, find, range_with_len}
use Rattle.std.proofs.Common.{ap, sym, ◌∙◌, eq-eqb, ne_eqb, le-ltb, le-leb, eqb-true, ltb-true, ltb-false}
use Rattle.std.proofs.lemmas.Bool.{lt-leb, eqb-false}
use Rattle.store.specs.declared.PageId.{PageId}
use Rattle.store.specs.Words.{word_at, cells}
use Rattle.store.specs.Page.{page, none, is_none, page_of}
use Rattle.store.specs.Cells.{cells_end}
use Rattle.datom.specs.declared.Datom.{Datom}
use Rattle.datom.specs.Value.{stored_value}
use Rattle.datom.specs.Datom.{datom_at, datom_of, datoms_of, stored_datom}
use Rattle.datom.specs.Laws.{datoms_from}
use Rattle.index.specs.Order.{is_less}
use Rattle.rules.specs.Page.{all, above, rising, older}
use Rattle.rules.specs.Node.{next_midpoint}

-- `all` at the head of a rest, and past the end
module _ {A : Type 0} (ok : A → Bool) where
  pub all_on : {l : List A} {x : A} {r : List A} → l ≡ x ∷ r → ok x ≡ true → all ok l ≡ all ok r
  unfolding all
  all_on e h = rw (e, all, h)

  pub all_stop : {l : List A} {x : A} {r : List A} → l ≡ x ∷ r → ok x ≡ false → all ok l ≡ false
  unfolding all
  all_stop e h = rw (e, all, h)

  pub all_end : (f : List ℕ → A) (w n i : ℕ) (s : List ℕ) → n ≤ i → all ok (drop i (cells f w n s)) ≡ true
  unfolding all
  all_end f w n i s h = rw (cells_end f w n i s h)

-- so a test of each index from i on is `all` of the rest: the list has x i at index i
module _ {A : Type 0} (ok : A → Bool) (x : ℕ → A) (n : ℕ) (l : List A) where
  pub all_each :
      ((i : ℕ) → i < n → drop i l ≡ x i ∷ drop (i + 1) l) → ((i : ℕ) → n ≤ i → all ok (drop i l) ≡ true) →
      (m i : ℕ) → m ≡ n - i → list_all (λ j. ok (x j)) (range_with_len i m) ≡ all ok (drop i l)
  unfolding all
  all_each here past zero i e = sym (past i (omega (arith, e)))
  all_each here past (suc m) i e = rw (here i (omega (arith, e)), all, ← all_each here past m (i + 1) (omega (arith, e)))

-- `rising` likewise: a datom and the next one
module _ (cmp : Datom → Datom → Ordering) (k i : ℕ) (s : List ℕ) where
  two : i + 1 < k → drop i (datoms_of k s) ≡ datom_at s (32 * i) ∷ (datom_at s (32 * i + 32) ∷ drop (i + 1 + 1) (datoms_of k s))
  two h =
      let e : 32 * (i + 1) ≡ 32 * i + 32 = omega arith in
      datoms_from k i s (omega arith) ∙ ap (◌∷◌ (datom_at s (32 * i))) (rw e at (datoms_from k (i + 1) s h))

  pub rising_on :
      i + 1 < k → is_less (cmp (datom_at s (32 * i)) (datom_at s (32 * i + 32))) ≡ true →
      rising cmp (drop i (datoms_of k s)) ≡ rising cmp (drop (i + 1) (datoms_of k s))
  unfolding rising above
  rising_on h l =
      let e : 32 * (i + 1) ≡ 32 * i + 32 = omega arith in
      rw (two h, rw e at (datoms_from k (i + 1) s h), l)

  pub rising_stop : i + 1 < k → is_less (cmp (datom_at s (32 * i)) (datom_at s (32 * i + 32))) ≡ false → rising cmp (drop i (datoms_of k s)) ≡ false
  unfolding rising above
  rising_stop h l = rw (two h, l)

  -- no more than one is left
  pub rising_end : k ≤ i + 1 → rising cmp (drop i (datoms_of k s)) ≡ true
  unfolding rising above
  rising_end h = elim (dec_le k i) [
    | yes a ↦ rw (cells_end datom_of 32 k i s a)
    | no a ↦ rw (datoms_from k i s (omega (arith, a)), cells_end datom_of 32 k (i + 1) s h)
  ]

-- so a test of each index behind i, of the datom before and the one there
module _ (cmp : Datom → Datom → Ordering) (k : ℕ) (s : List ℕ) where
  abbrev pub rises : ℕ → Bool
  rises j = is_less (cmp (datom_at s (32 * (j - 1))) (datom_at s (32 * (j - 1) + 32)))

  pub rising_each : (m i : ℕ) → m ≡ k - (i + 1) → list_all rises (range_with_len (i + 1) m) ≡ rising cmp (drop i (datoms_of k s))
  rising_each zero i e = sym (rising_end cmp k i s (omega (arith, e)))
  rising_each (suc m) i e =
      let w : i + 1 - 1 ≡ i = omega arith in
      rw w (side (is_less (cmp (datom_at s (32 * i)) (datom_at s (32 * i + 32)))) refl (rising_each m (i + 1) (omega (arith, e))))
    where
      side :
          (b : Bool) → is_less (cmp (datom_at s (32 * i)) (datom_at s (32 * i + 32))) ≡ b → {r : Bool} → r ≡ rising cmp (drop (i + 1) (datoms_of k s)) →
          (b && r) ≡ rising cmp (drop i (datoms_of k s))
      side true h on = on ∙ sym (rising_on cmp k i s (omega (arith, e)) h)
      side false h on = sym (rising_stop cmp k i s (omega (arith, e)) h)

-- what the words of a page say
pub stored_word : (h s : List ℕ) (at : ℕ) (b : Bool) → stored_value h (record { 0 = word_at s (at + 16) }) ≡ b → stored_datom h (datom_at s at) ≡ b
unfolding stored_datom datom_at
stored_word h s at b e = e

pub none_word : (w : ℕ) → w ≡ none.0 → is_none (page w) ≡ true
unfolding is_none
none_word w e = eq-eqb w none.0 e

pub real_word : (w : ℕ) → (w ≢ none.0) → is_none (page w) ≡ false
unfolding is_none
real_word w e = ne_eqb w none.0 e

-- none or below, by the number after it, which is 0 for none
pub older_word : (id : PageId) (w : ℕ) → w < 2 ^ 64 → nat_le ((w + 1) % 2 ^ 64) id.0 ≡ older id (page w)
unfolding older is_none
older_word id w h = side (w == none.0) refl (nat_lt w id.0) refl
  where
    side : (a : Bool) → (w == none.0) ≡ a → (b : Bool) → nat_lt w id.0 ≡ b → nat_le ((w + 1) % 2 ^ 64) id.0 ≡ (w == none.0 || nat_lt w id.0)
    side true e b f = rw (e, le-leb ((w + 1) % 2 ^ 64) id.0 (omega (arith, eqb-true w none.0 e)))
    side false e true f = rw (e, f, le-leb ((w + 1) % 2 ^ 64) id.0 (omega (arith, eqb-false w none.0 e, ltb-true w id.0 f)))
    side false e false f = rw (e, f, lt-leb ((w + 1) % 2 ^ 64) id.0 (omega (arith, eqb-false w none.0 e, ltb-false w id.0 f)))

-- no page is below page 0
pub older_zero : (l : List PageId) → all (older (page 0)) l ≡ all is_none l
unfolding all older
older_zero [] = refl
older_zero (c ∷ l) = rw (le-ltb c.0 0 zero-le, or-false (is_none c), older_zero l, all)

-- the next midpoint at the head of a rest, and past the end
pub next_on : {l : List PageId} {x : PageId} {r : List PageId} → l ≡ x ∷ r → is_none x ≡ true → next_midpoint l ≡ next_midpoint r
unfolding next_midpoint
next_on e h = rw (e, next_midpoint, h)

pub next_stop : {l : List PageId} {x : PageId} {r : List PageId} → l ≡ x ∷ r → is_none x ≡ false → next_midpoint l ≡ Some x
unfolding next_midpoint
next_stop e h = rw (e, next_midpoint, h)

pub next_end : (n i at : ℕ) (s : List ℕ) → n ≤ i → next_midpoint (drop i (cells page_of 8 n (drop at s))) ≡ None
unfolding next_midpoint
next_end n i at s h = rw (cells_end page_of 8 n i (drop at s) h)

-- so the first of each index from i on: the list has x i at index i
module _ (x : ℕ → PageId) (n : ℕ) (l : List PageId) where
  pub next_each :
      ((i : ℕ) → i < n → drop i l ≡ x i ∷ drop (i + 1) l) → ((i : ℕ) → n ≤ i → next_midpoint (drop i l) ≡ None) →
      (m i : ℕ) → m ≡ n - i → find (λ c. not (is_none c)) (map x (range_with_len i m)) ≡ next_midpoint (drop i l)
  next_each here past zero i e = sym (past i (omega (arith, e)))
  next_each here past (suc m) i e = side (is_none (x i)) refl (next_each here past m (i + 1) (omega (arith, e)))
    where
      side :
          (b : Bool) → is_none (x i) ≡ b → {r : Option PageId} → r ≡ next_midpoint (drop (i + 1) l) →
          cond (not (is_none (x i))) (Some (x i)) r ≡ next_midpoint (drop i l)
      side true h on = rw h (on ∙ sym (next_on (here i (omega (arith, e))) h))
      side false h on = rw h (sym (next_stop (here i (omega (arith, e))) h))
