-- Whether one datom is below another: by the first words of the order if they are different, by the second where these decide, else by what
-- is behind them.
use Prim.Native.Nat.{ℕ, ◌^◌, compare}
use Rattle.std.proofs.Common.{arith, inl, inr, sym, ◌∙◌, eqb-true, eq-eqb, lt-ltb, le-ltb}
use Rattle.std.specs.Prelude.{List, Bool, true, false, ◌⊎◌, ◌≡◌, refl, ltb, eqb}
use Rattle.std.specs.Int.Bits.{bit_or}
use Rattle.store.specs.Laws.{apart}
use Rattle.datom.specs.declared.Datom.{Datom}
use Rattle.index.specs.declared.Index.{Index}
use Rattle.index.specs.declared.Index.TheVariants.{Eavt, Aevt, Avet}
use Rattle.std.specs.declared.cmp.Ordering.TheVariants.{Less, Greater}
use Rattle.index.specs.Order.{and_then, is_less, order_in, named}
use Rattle.index.specs.Compare.{below, same, above, three}
use Rattle.index.specs.Front.{by_value, second_decides, both_small}
use Rattle.index.specs.Parts.{word_in, first, second, SecondTells}
use Rattle.index.specs.Named.{less_named, greater_named, named_tells}
use Rattle.index.proofs.Ways.{values, last, less_first, greater_first, less_two, greater_two, behind_attribute}

-- where the second words decide they are different, and tell
pub differ : (i : Index) (u v : ℕ) → second_decides i u v ≡ true → u ≡ v → ⊥
unfolding second_decides
differ i u v d e = let w : false ≡ true = rw (eq-eqb u v e) at d in apart (cc)

pub tell : (i : Index) (a b : Datom) → second_decides i (word_in (second i) a) (word_in (second i) b) ≡ true → SecondTells i a b
unfolding second_decides
tell Eavt a b d = tt
tell Aevt a b d = tt
tell Avet a b d = side (eqb a.value.0 b.value.0) refl (ltb (bit_or a.value.0 b.value.0) (2 ^ 62)) refl
  where
    side :
        (p : Bool) → eqb a.value.0 b.value.0 ≡ p → (q : Bool) → ltb (bit_or a.value.0 b.value.0) (2 ^ 62) ≡ q →
        SecondTells Avet a b
    side true e q f = let w : false ≡ true = rw e at d in absurd (apart (cc))
    side false e true f = both_small a.value b.value f
    side false e false f = let w : false ≡ true = rw (e, f) at d in absurd (apart (cc))

-- where they do not, they are the same or are values
pub silent : (i : Index) (u v : ℕ) → second_decides i u v ≡ false → (by_value i ≡ true) ⊎ (u ≡ v)
unfolding second_decides
silent i u v d = side (eqb u v) refl (ltb (bit_or u v) (2 ^ 62)) refl (by_value i) refl
  where
    side :
        (p : Bool) → eqb u v ≡ p → (q : Bool) → ltb (bit_or u v) (2 ^ 62) ≡ q → (r : Bool) → by_value i ≡ r → (by_value i ≡ true) ⊎ (u ≡ v)
    side true e q f r g = inr (eqb-true u v e)
    side false e q f true g = inl g
    side false e true f false g = let w : true ≡ false = rw (e, f) at d in absurd (apart (cc))
    side false e false f false g = let w : true ≡ false = rw (e, f, g) at d in absurd (apart (cc))

module _ (i : Index) (h : List ℕ) (a b : Datom) where
  abbrev is_below : Bool
  is_below = is_less ((order_in i h).cmp a b)

  by_less : Less ≡ named ((order_in i h).cmp a b) → true ≡ is_below
  by_less e = sym (less_named _ (sym e)).0

  by_greater : Greater ≡ named ((order_in i h).cmp a b) → false ≡ is_below
  by_greater e = sym (greater_named _ (sym e)).0

  pub by_first : (word_in (first i) a ≡ word_in (first i) b → ⊥) → ltb (word_in (first i) a) (word_in (first i) b) ≡ is_below
  by_first n =
      elim (three (word_in (first i) a) (word_in (first i) b)) [
        | below l ↦ lt-ltb _ _ l ∙ by_less (less_first i h a b l)
        | above l ↦ le-ltb (word_in (first i) a) (word_in (first i) b) (omega arith) ∙ by_greater (greater_first i h a b l)
        | same e ↦ absurd (n e)
      ]

  module _ (e : word_in (first i) a ≡ word_in (first i) b) where
    pub by_second :
        second_decides i (word_in (second i) a) (word_in (second i) b) ≡ true → ltb (word_in (second i) a) (word_in (second i) b) ≡ is_below
    by_second d =
        elim (three (word_in (second i) a) (word_in (second i) b)) [
          | below l ↦ lt-ltb _ _ l ∙ by_less (less_two i h a b (tell i a b d) e l)
          | above l ↦ le-ltb (word_in (second i) a) (word_in (second i) b) (omega arith) ∙ by_greater (greater_two i h a b (tell i a b d) e l)
          | same f ↦ absurd (differ i _ _ d f)
        ]

    pub by_rest :
        second_decides i (word_in (second i) a) (word_in (second i) b) ≡ false →
        is_less (and_then (values h a b) (and_then (compare a.entity.0 b.entity.0) (last h a b))) ≡ is_below
    by_rest d = named_tells _ _ (rest i e (silent i _ _ d))
      where
        rest :
            (j : Index) → word_in (first j) a ≡ word_in (first j) b → (by_value j ≡ true) ⊎ (word_in (second j) a ≡ word_in (second j) b) →
            named (and_then (values h a b) (and_then (compare a.entity.0 b.entity.0) (last h a b))) ≡ named ((order_in j h).cmp a b)
        rest Eavt e (inl v) = absurd (apart (cc))
        rest Eavt e (inr f) = behind_attribute h a b Eavt f (inr e)
        rest Aevt e (inl v) = absurd (apart (cc))
        rest Aevt e (inr f) = behind_attribute h a b Aevt e (inr f)
        rest Avet e s = behind_attribute h a b Avet e (inl refl)
