-- A few bytes as a number.
use Rattle.std.specs.Prelude.{ℕ, zero, suc, ◌+◌, ◌-◌, ◌*◌, ◌/◌, ◌%◌, ◌^◌, ◌≤◌, ◌<◌, List, [], ◌∷◌, Some, None, true, false, ◌≡◌, drop, get_or}
use Rattle.std.proofs.Common.{zero-le, suc-le-suc, pow-suc, arith, ap, ◌∙◌, length-drop, drop_of_length-le, drop-cons, get_or-drop}
use borrow.Author.Tests.{le-leb, lt-leb, le-ltb, lt-ltb, eq-eqb}
use Rattle.std.specs.Int.Bits.{bit_and}
use Rattle.std.proofs.lemmas.Nat.Bits.{and_high}
use Rattle.std.proofs.Math.ListN.{length}
use Rattle.store.specs.Words.{little, bytes_of}
use Rattle.store.specs.Laws.{bytes_little, low_bytes}
use Rattle.datom.specs.declared.Value.{Value}
use Rattle.datom.specs.Value.{is_int, str_len, is_str, str, inline_content, inline_str}

pub little_below : (n : ℕ) (s : List ℕ) → ((i : ℕ) → get_or s i 0 < 256) → length s ≤ n → little s < 256 ^ n
unfolding little
little_below zero [] h l = suc-le-suc zero-le
little_below zero (b ∷ s) h l = absurd (omega arith)
little_below (suc n) [] h l = rw pow-suc (omega (arith, little_below n [] h zero-le))
little_below (suc n) (b ∷ s) h l =
    let k : b < 256 = h 0 in
    rw pow-suc (omega (arith, little_below n s (λ i. h (suc i)) (omega arith)))

pub little_rest : (n : ℕ) (s : List ℕ) → ((i : ℕ) → get_or s i 0 < 256) → (i : ℕ) → length s ≤ n + i → little (drop i s) < 256 ^ n
little_rest n s h i l = little_below n (drop i s) (λ j. rw (get_or-drop i s j 0) (h (i + j))) (simp length-drop (omega arith))

-- from the last byte on: none, and one more in front
pub little_none : (s : List ℕ) → 0 ≡ little (drop (length s) s)
unfolding little
little_none s = rw (drop_of_length-le s {i = length s} (omega arith))

pub little_step : (s : List ℕ) (i w : ℕ) → 0 < i → i ≤ length s → w ≡ little (drop i s) → get_or s (i - 1) 0 + 256 * w ≡ little (drop (i - 1) s)
unfolding little
little_step s i w some h e =
    let z : i ≡ suc (i - 1) = omega arith in
    rw (e, drop-cons s (i - 1) 0 (omega arith)) (ap (λ (k : ℕ). get_or s (i - 1) 0 + 256 * little (drop k s)) z)

-- the tag of a word is its two top bits: cut out by the mask, or by dividing
tag_of : (n : ℕ) → n < 2 ^ 64 → bit_and n 0xc000_0000_0000_0000 ≡ n / 2 ^ 62 * 2 ^ 62
tag_of n h =
    let e : n / 2 ^ 62 % 2 ^ 2 ≡ n / 2 ^ 62 = omega arith in
    rw e at (and_high n 2 62)

pub bytes_tag_law : (n : ℕ) → n < 2 ^ 64 → bit_and n 0xc000_0000_0000_0000 ≡ 2 ^ 63 → n / 2 ^ 62 ≡ 2
bytes_tag_law n h e = let k = tag_of n h in omega (arith, k, e)

pub other_tag : (n : ℕ) → n < 2 ^ 64 → (bit_and n 0xc000_0000_0000_0000 ≡ 2 ^ 63 → ⊥) → n / 2 ^ 62 ≡ 2 → ⊥
other_tag n h e z = e (tag_of n h ∙ rw z)

-- the ways of a byte string
pub too_long : (s : List ℕ) → 7 < length s → None ≡ inline_str s
too_long s h = rw (lt-leb (length s) 7 h)

pub is_short : (s : List ℕ) (w : ℕ) → length s ≤ 7 → w ≡ little s → Some (record { 0 = 2 ^ 63 + length s * 2 ^ 56 + w }) ≡ inline_str s
is_short s w h e = rw (le-leb (length s) 7 h, e)

-- the word that is made of a byte string stands for just these bytes
module _ (s : List ℕ) (bytes : (i : ℕ) → get_or s i 0 < 256) (short : length s ≤ 7) where
  abbrev made : Value
  made = record { 0 = 2 ^ 63 + length s * 2 ^ 56 + little s }

  low : little s < 2 ^ 56
  low = little_below 7 s bytes short

  tagged : made.0 / 2 ^ 62 ≡ 2
  tagged = omega (arith, low)

  no_int_law : is_int made ≡ false
  unfolding is_int
  no_int_law = le-ltb made.0 (2 ^ 62) (omega (arith, low))

  long : str_len made ≡ length s
  unfolding str_len
  long = omega (arith, low)

  is_str_law : is_str made ≡ true
  unfolding is_str
  is_str_law =
      let z : made.0 % 2 ^ 56 ≡ little s = omega (arith, low) in
      rw (eq-eqb (made.0 / 2 ^ 62) 2 tagged, long, le-leb (length s) 7 short, z, lt-ltb (little s) (256 ^ length s) (little_below (length s) s bytes (omega arith)))

  same_bytes : bytes_of (length s) made.0 ≡ s
  same_bytes =
      let k : length s + (7 - length s) ≡ 7 = omega arith in
      let e : made.0 ≡ little s + 2 ^ 56 * (128 + length s) = omega arith in
      let w : bytes_of (length s) (little s + 256 ^ (length s + (7 - length s)) * (128 + length s)) ≡ bytes_of (length s) (little s) =
      low_bytes (length s) (7 - length s) (little s) (128 + length s) in
      ap (bytes_of (length s)) e ∙ rw k at w ∙ bytes_little s bytes

  pub inline_content_law : inline_content made ≡ str s
  unfolding inline_content
  inline_content_law = rw (no_int_law, is_str_law, long, same_bytes)
