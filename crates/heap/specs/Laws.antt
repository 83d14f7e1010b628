-- The ways through the tests of a constant.
use Rattle.std.specs.Prelude.{ℕ, zero, suc, ◌+◌, ◌-◌, ◌*◌, ◌/◌, ◌%◌, ◌^◌, ◌≤◌, ◌<◌, Bool, true, false, ◌&&◌, ◌||◌, not, List, [], ◌∷◌, ◌++◌, ◌≡◌, refl, leb, ltb, eqb, get_or}
use Rattle.std.proofs.Math.Decide.{dec_le}
use Rattle.std.proofs.Common.{pow-suc, mul-add, mul_assoc, mul_left_comm, ◌∙◌, length-take, length-drop, take-append-drop, drop-drop, get_or-take, length-take-le}
use Rattle.std.proofs.Math.Nat.{pow-zero, one-le-pow, add-mul-div_left, div-eq_of_lt}
use native.Mathlib.Omega.{arith}
use Rattle.std.proofs.Math.Path.{sym, ap}
use borrow.Author.Tests.{ltb-false, leb-true, lt-ltb, le-ltb, le-leb, lt-leb, eq-eqb, eqb-true, ne_eqb}
use Rattle.std.proofs.Math.ListN.{length, take, drop, get_or-eq_default}
use Rattle.store.specs.Cells.{drop_take}
use Rattle.store.specs.Words.{little, word_at}
use Rattle.store.specs.Laws.{apart, both, little_small, part_bytes}
use Rattle.heap.specs.Constant.{bad_heap, up_to8, all_zero, word_there, bytes_there, integer_at, bytes_at, valid_int, padded, valid_str}

-- so many used bytes
module _ (h : List ℕ) (n : ℕ) where
  pub past_slice : length h < n → true ≡ bad_heap n h
  unfolding bad_heap
  past_slice l = rw (lt-ltb (length h) n l)

  pub fits_slice : n ≤ length h → not (eqb (n % 8) 0) ≡ bad_heap n h
  unfolding bad_heap
  fits_slice l = rw (le-ltb (length h) n l)

-- a heap in order
pub heap_in : (n : ℕ) (h : List ℕ) → bad_heap n h ≡ false → (n ≤ length h) × (n % 8 ≡ 0)
unfolding bad_heap
heap_in n h e = side (ltb (length h) n) refl (eqb (n % 8) 0) refl e
  where
    side : (a : Bool) → ltb (length h) n ≡ a → (b : Bool) → eqb (n % 8) 0 ≡ b → (a || not b) ≡ false → (n ≤ length h) × (n % 8 ≡ 0)
    side true p b q e = absurd (apart (cc))
    side false p true q e = (ltb-false (length h) n p, eqb-true (n % 8) 0 q)
    side false p false q e = absurd (apart (cc))

-- two comparisons that hold together
pub same_leb : (a b c d : ℕ) → (a ≤ b → c ≤ d) → (c ≤ d → a ≤ b) → leb a b ≡ leb c d
same_leb a b c d f g =
    elim (dec_le a b) [
      | yes h ↦ rw (le-leb a b h, le-leb c d (f h))
      | no h ↦
          let k : d < c = elim (dec_le c d) [ yes x ↦ absurd (h (g x)) | no x ↦ omega (arith, x) ] in
          rw (lt-leb a b (omega (arith, h)), lt-leb c d k)
    ]

module _ (h : List ℕ) (o : ℕ) where
  pub too_short : length h < 8 → false ≡ word_there h o
  unfolding word_there
  too_short p = sym (lt-leb (o + 8) (length h) (omega arith))

  pub ends_before : 8 ≤ length h → leb o (length h - 8) ≡ word_there h o
  unfolding word_there
  ends_before p = same_leb o (length h - 8) (o + 8) (length h) (λ x. omega (arith, x)) (λ x. omega (arith, x))

  -- the word is there
  pub word_in : word_there h o ≡ true → o + 8 ≤ length h
  unfolding word_there
  word_in e = leb-true (o + 8) (length h) e

  -- and the bytes that it counts
  pub bytes_in : bytes_there h o ≡ true → (o + 8 ≤ length h) × (o + 8 + word_at h o ≤ length h)
  unfolding bytes_there
  bytes_in e =
      let w = both (word_there h o) (leb (o + 8 + word_at h o) (length h)) e in
      (word_in w.0, leb-true _ _ w.1)

  module _ (there : word_there h o ≡ true) where
    pub counts : leb (word_at h o) (length h - o - 8) ≡ bytes_there h o
    unfolding bytes_there
    counts =
        let p = word_in there in
        rw there (same_leb (word_at h o) (length h - o - 8) (o + 8 + word_at h o) (length h) (λ x. omega (arith, p, x)) (λ x. omega (arith, p, x)))

    pub integer_there : word_at h o ≡ integer_at h o
    unfolding integer_at
    integer_there = rw there

  pub integer_gone : word_there h o ≡ false → 0 ≡ integer_at h o
  unfolding integer_at
  integer_gone e = rw e

  pub bytes_none : word_there h o ≡ false → false ≡ bytes_there h o
  unfolding bytes_there
  bytes_none e = rw e

  pub bytes_gone : bytes_there h o ≡ false → [] ≡ bytes_at h o
  unfolding bytes_at
  bytes_gone e = rw e

  pub bytes_there_law : bytes_there h o ≡ true → take (word_at h o) (drop (o + 8) h) ≡ bytes_at h o
  unfolding bytes_at
  bytes_there_law e = rw e

  -- an integer
  pub int_askew : (o % 8 ≡ 0 → ⊥) → false ≡ valid_int h o
  unfolding valid_int
  int_askew p = rw (ne_eqb (o % 8) 0 p)

  module _ (even : o % 8 ≡ 0) where
    pub int_gone : word_there h o ≡ false → false ≡ valid_int h o
    unfolding valid_int
    int_gone e = rw (eq-eqb (o % 8) 0 even, e)

    pub int_there : word_there h o ≡ true → leb (2 ^ 62) (word_at h o) ≡ valid_int h o
    unfolding valid_int
    int_there e = rw (eq-eqb (o % 8) 0 even, e)

  -- a byte string
  pub str_askew : (o % 8 ≡ 0 → ⊥) → false ≡ valid_str h o
  unfolding valid_str
  str_askew p = rw (ne_eqb (o % 8) 0 p)

  module _ (even : o % 8 ≡ 0) where
    pub str_gone : bytes_there h o ≡ false → false ≡ valid_str h o
    unfolding valid_str
    str_gone e = rw (eq-eqb (o % 8) 0 even, e)

    pub str_short : bytes_there h o ≡ true → word_at h o < 8 → false ≡ valid_str h o
    unfolding valid_str
    str_short e l = rw (eq-eqb (o % 8) 0 even, e, lt-leb 8 (word_at h o) l)

    pub str_there : bytes_there h o ≡ true → 8 ≤ word_at h o → padded h (o + 8 + word_at h o) (word_at h o) ≡ valid_str h o
    unfolding valid_str
    str_there e l = rw (eq-eqb (o % 8) 0 even, e, le-leb 8 (word_at h o) l)

-- bytes are all zero if the number that they are is
zero_little : (s : List ℕ) → all_zero s ≡ eqb (little s) 0
unfolding all_zero little
zero_little [] = refl
zero_little (b ∷ s) = side b (little s) (zero_little s)
  where
    side : (b n : ℕ) → all_zero s ≡ eqb n 0 → (eqb b 0 && all_zero s) ≡ eqb (b + 256 * n) 0
    side zero zero e = rw e
    side zero (suc n) e = e ∙ ne_eqb (suc n) 0 (λ x. omega (arith, x)) ∙ sym (ne_eqb (0 + 256 * suc n) 0 (λ x. omega (arith, x)))
    side (suc b) n e = rw (ne_eqb (suc b) 0 (λ x. omega (arith, x)), ne_eqb (suc b + 256 * n) 0 (λ x. omega (arith, x)))

-- a number of which the first k bytes are cut off
little_append : (s p : List ℕ) → little (s ++ p) ≡ little s + 256 ^ length s * little p
unfolding little
little_append [] p = rw (pow-zero 256) (omega arith)
little_append (b ∷ s) p = rw (little_append s p, pow-suc) (tidy b (little s) (256 ^ length s) (little p))
  where
    tidy : (b x w y : ℕ) → b + 256 * (x + w * y) ≡ b + 256 * x + w * 256 * y
    tidy b x w y = rw (mul-add, mul_assoc w 256 y, mul_left_comm w 256 y) (omega arith)

bits : (k : ℕ) → k < 8 → 2 ^ (8 * k) ≡ 256 ^ k
bits zero h = refl
bits (suc zero) h = refl
bits (suc (suc zero)) h = refl
bits (suc (suc (suc zero))) h = refl
bits (suc (suc (suc (suc zero)))) h = refl
bits (suc (suc (suc (suc (suc zero))))) h = refl
bits (suc (suc (suc (suc (suc (suc zero)))))) h = refl
bits (suc (suc (suc (suc (suc (suc (suc zero))))))) h = refl
bits (suc (suc (suc (suc (suc (suc (suc (suc k)))))))) h = absurd (omega arith)

-- what is left of a number of eight bytes when the first k are cut off
module _ (s : List ℕ) (small : (i : ℕ) → get_or s i 0 < 256) (k : ℕ) (fits : k ≤ length s) where
  front_below : little (take k s) < 256 ^ k
  front_below =
      rw (length-take-le k s fits) at (little_small (take k s) (λ i. elim (dec_le k i) [
        | yes p ↦ rw (get_or-eq_default (take k s) 0 {n = i} (omega (arith, p, length-take-le k s fits))) (omega arith)
        | no p ↦ let q : i < k = omega (arith, p) in rw (get_or-take k s i 0 q) (small i)
      ]))

  little_cut : little s / 256 ^ k ≡ little (drop k s)
  little_cut =
      let e : little s ≡ little (take k s) + 256 ^ k * little (drop k s) =
      sym (ap little (take-append-drop k s)) ∙ little_append (take k s) (drop k s) ∙ rw (length-take-le k s fits) in
      rw (e, add-mul-div_left (little (take k s)) (little (drop k s)) (one-le-pow k 256 (omega arith)), div-eq_of_lt front_below) (omega arith)

module _ (h : List ℕ) (at n : ℕ) where
  pub even_padded : n % 8 ≡ 0 → at ≤ length h → true ≡ padded h at n
  unfolding padded up_to8 all_zero
  even_padded e p =
      let z : (n + 7) / 8 * 8 - n ≡ 0 = omega arith in
      rw (z, le-leb (at + 0) (length h) (omega arith))

  module _ (odd : n % 8 ≡ 0 → ⊥) where
    past : up_to8 n - n ≡ 8 - n % 8
    unfolding up_to8
    past = omega (arith, odd)

    pub padding_gone : at ≤ length h → length h - at < 8 - n % 8 → false ≡ padded h at n
    unfolding padded
    padding_gone p q = rw (past, lt-leb (at + (8 - n % 8)) (length h) (omega arith))

    -- the padding is what is left of the last word
    pub padding_there :
        ((i : ℕ) → get_or h i 0 < 256) → n ≤ at → at + (8 - n % 8) ≤ length h → eqb (word_at h (at - n % 8) / 2 ^ (8 * (n % 8))) 0 ≡ padded h at n
    unfolding padded word_at
    padding_there small p q =
        let l = at - n % 8 in
        let eighth : 8 ≡ n % 8 + (8 - n % 8) = omega arith in
        let eight : take 8 (drop l h) ≡ take (n % 8 + (8 - n % 8)) (drop l h) = ap (λ (i : ℕ). take i (drop l h)) eighth in
        let back : l + n % 8 ≡ at = omega arith in
        let long : length (take 8 (drop l h)) ≡ 8 = simp (length-take, length-drop) (omega arith) in
        let rest : drop (n % 8) (take 8 (drop l h)) ≡ take (8 - n % 8) (drop at h) =
        rw eight (drop_take (n % 8) (8 - n % 8) (drop l h) ∙ rw (drop-drop (n % 8) l h) (ap (λ (i : ℕ). take (8 - n % 8) (drop i h)) back)) in
        rw (
          past,
          le-leb (at + (8 - n % 8)) (length h) q,
          bits (n % 8) (omega arith),
          little_cut (take 8 (drop l h)) (part_bytes h small l (omega arith)) (n % 8) (omega (arith, long)),
          rest,
          zero_little (take (8 - n % 8) (drop at h)),
        )
