-- What each tag makes of a value, and the ways through its tests.
use Rattle.std.specs.Prelude.{ℕ, ◌*◌, ◌/◌, ◌^◌, ◌≤◌, ◌<◌, Bool, ◌&&◌, ◌||◌, List, ◌≡◌}
use Rattle.std.proofs.Math.Decide.{dec_lt}
use Rattle.std.proofs.Common.{arith, ◌∙◌}
use Rattle.std.proofs.Math.Bool.{true, false, not}
use Rattle.std.proofs.Math.Path.{refl, sym, ap}
use borrow.Author.Tests.{lt-ltb, le-ltb, eq-eqb, ne_eqb}
use Rattle.heap.specs.Constant.{valid_int, valid_str}
use Rattle.datom.specs.declared.Value.{Value}
use Rattle.datom.specs.Value.{is_int, is_str, is_max, names_int, names_str, offset_of, formed_value, stored_value, bound_value}

or_false : (b : Bool) → b ≡ (b || false)
or_false true = refl
or_false false = refl

pub or_true : (b : Bool) → (b || true) ≡ true
or_true true = refl
or_true false = refl

or_none : (b : Bool) → b ≡ (b || false || false)
or_none true = refl
or_none false = refl

-- what a word of each tag is and is not
pub record Tag01 (v : Value) : Type 0 where
  pub no_int : is_int v ≡ false
  pub no_str : is_str v ≡ false
  pub names : names_int v ≡ true
  pub names_none : names_str v ≡ false

pub record Tag10 (v : Value) : Type 0 where
  pub no_int : is_int v ≡ false
  pub names_none : names_int v ≡ false
  pub names_no_str : names_str v ≡ false

pub record Tag11 (v : Value) : Type 0 where
  pub no_int : is_int v ≡ false
  pub no_str : is_str v ≡ false
  pub names_none : names_int v ≡ false
  pub names : not (is_max v) ≡ names_str v

module _ (v : Value) where
  -- tag 00, by itself
  pub int_word : v.0 < 2 ^ 62 → is_int v ≡ true
  unfolding is_int
  int_word p = lt-ltb v.0 (2 ^ 62) p

  pub no_int_law : 2 ^ 62 ≤ v.0 → is_int v ≡ false
  unfolding is_int
  no_int_law p = le-ltb v.0 (2 ^ 62) p

  -- another tag than 10, 01, 11
  pub no_str_law : (v.0 / 2 ^ 62 ≡ 2 → ⊥) → is_str v ≡ false
  unfolding is_str
  no_str_law p = rw (ne_eqb (v.0 / 2 ^ 62) 2 p)

  pub names_int_law : v.0 / 2 ^ 62 ≡ 1 → names_int v ≡ true
  unfolding names_int
  names_int_law p = eq-eqb (v.0 / 2 ^ 62) 1 p

  pub names_no_int : (v.0 / 2 ^ 62 ≡ 1 → ⊥) → names_int v ≡ false
  unfolding names_int
  names_no_int p = ne_eqb (v.0 / 2 ^ 62) 1 p

  pub names_no_str_law : (v.0 / 2 ^ 62 ≡ 3 → ⊥) → names_str v ≡ false
  unfolding names_str
  names_no_str_law p = rw (ne_eqb (v.0 / 2 ^ 62) 3 p)

  -- tag 11: a byte string, or max
  pub names_str_law : v.0 / 2 ^ 62 ≡ 3 → not (is_max v) ≡ names_str v
  unfolding names_str
  names_str_law p = rw (eq-eqb (v.0 / 2 ^ 62) 3 p)

  pub tag_01 : 2 ^ 62 ≤ v.0 → v.0 < 2 ^ 63 → Tag01 v
  tag_01 p q =
      let t : v.0 / 2 ^ 62 ≡ 1 = omega arith in
      record { no_int = no_int_law p; no_str = no_str_law (λ x. omega (arith, t, x)); names = names_int_law t; names_none = names_no_str_law (λ x. omega (arith, t, x)) }

  pub tag_10 : 2 ^ 63 ≤ v.0 → v.0 < 3 * 2 ^ 62 → Tag10 v
  tag_10 p q =
      let t : v.0 / 2 ^ 62 ≡ 2 = omega arith in
      record { no_int = no_int_law (omega arith); names_none = names_no_int (λ x. omega (arith, t, x)); names_no_str = names_no_str_law (λ x. omega (arith, t, x)) }

  pub tag_11 : 3 * 2 ^ 62 ≤ v.0 → v.0 < 2 ^ 64 → Tag11 v
  tag_11 p q =
      let t : v.0 / 2 ^ 62 ≡ 3 = omega arith in
      record { no_int = no_int_law (omega arith); no_str = no_str_law (λ x. omega (arith, t, x)); names_none = names_no_int (λ x. omega (arith, t, x)); names = names_str_law t }

  -- refusal 3
  pub formed_low : v.0 < 2 ^ 63 → true ≡ formed_value v
  unfolding formed_value
  formed_low p =
      elim (dec_lt v.0 (2 ^ 62)) [
        | yes q ↦ rw (int_word q)
        | no q ↦ let t = tag_01 (omega (arith, q)) p in rw (t.no_int, t.no_str, t.names)
      ]

  pub formed_str : 2 ^ 63 ≤ v.0 → v.0 < 3 * 2 ^ 62 → is_str v ≡ formed_value v
  unfolding formed_value
  formed_str p q = let t = tag_10 p q in rw (t.no_int, t.names_none, t.names_no_str) (or_none (is_str v))

  pub formed_high : 3 * 2 ^ 62 ≤ v.0 → v.0 < 2 ^ 64 → not (is_max v) ≡ formed_value v
  unfolding formed_value
  formed_high p q = let t = tag_11 p q in rw (t.no_int, t.no_str, t.names_none) t.names

  -- refusal 11
  module _ (h : List ℕ) where
    pub stored_int : v.0 < 2 ^ 62 → true ≡ stored_value h v
    unfolding stored_value
    stored_int p = rw (int_word p)

    pub stored_far_int : 2 ^ 62 ≤ v.0 → v.0 < 2 ^ 63 → valid_int h (offset_of v) ≡ stored_value h v
    unfolding stored_value
    stored_far_int p q = let t = tag_01 p q in rw (t.no_int, t.no_str, t.names, t.names_none) (or_false (valid_int h (offset_of v)))

    pub stored_str : 2 ^ 63 ≤ v.0 → v.0 < 3 * 2 ^ 62 → is_str v ≡ stored_value h v
    unfolding stored_value
    stored_str p q = let t = tag_10 p q in rw (t.no_int, t.names_none, t.names_no_str) (or_none (is_str v))

    module _ (p : 3 * 2 ^ 62 ≤ v.0) (q : v.0 < 2 ^ 64) where
      pub stored_max : is_max v ≡ true → false ≡ stored_value h v
      unfolding stored_value
      stored_max e =
          let t = tag_11 p q in
          let n : names_str v ≡ false = sym t.names ∙ ap not e in
          rw (t.no_int, t.no_str, t.names_none, n)

      pub stored_far_str : is_max v ≡ false → valid_str h (offset_of v) ≡ stored_value h v
      unfolding stored_value
      stored_far_str e =
          let t = tag_11 p q in
          let n : names_str v ≡ true = sym t.names ∙ ap not e in
          rw (t.no_int, t.no_str, t.names_none, n)

    -- a bound
    pub bound_max : is_max v ≡ true → true ≡ bound_value h v
    unfolding bound_value
    bound_max e = rw e (sym (or_true (stored_value h v)))

    pub bound_stored : is_max v ≡ false → stored_value h v ≡ bound_value h v
    unfolding bound_value
    bound_stored e = rw e (or_false (stored_value h v))

    -- what may be stored may be given
    pub stored_formed : stored_value h v ≡ true → formed_value v ≡ true
    unfolding stored_value formed_value
    stored_formed e = side (is_int v || is_str v) (names_int v) (names_str v) e
      where
        side : (a b c : Bool) → (a || (b && valid_int h (offset_of v)) || (c && valid_str h (offset_of v))) ≡ true → (a || b || c) ≡ true
        side true b c e = refl
        side false true c e = refl
        side false false true e = refl
        side false false false e = e
