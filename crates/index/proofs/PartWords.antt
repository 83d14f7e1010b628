-- The parts of an order as it has them, and when they compare as their words do.
use Prim.Native.Nat.{ℕ, compare}
use Rattle.std.specs.Prelude.{List, ◌∷◌, ◌≡◌}
use Rattle.std.proofs.Math.Path.{refl}
use Rattle.datom.specs.declared.Datom.{Datom}
use Rattle.index.specs.declared.Index.{Index}
use Rattle.index.specs.declared.Index.TheVariants.{Eavt, Aevt, Avet}
use Rattle.index.specs.Order.{cmp_part, parts_of}
use Rattle.index.specs.Keys.{by_integer}
use Rattle.index.specs.Parts.{word_in, first, second, later, SecondTells}

pub parts_of_law : (i : Index) → parts_of i ≡ first i ∷ later i
unfolding parts_of
parts_of_law Eavt = refl
parts_of_law Aevt = refl
parts_of_law Avet = refl

-- the first part is a number in every order
module _ (h : List ℕ) (a b : Datom) where
  pub first_number : (i : Index) → cmp_part h (first i) a b ≡ compare (word_in (first i) a) (word_in (first i) b)
  unfolding cmp_part
  first_number Eavt = refl
  first_number Aevt = refl
  first_number Avet = refl

  -- and so is the second where its words tell
  pub second_number :
      (i : Index) → SecondTells i a b → cmp_part h (second i) a b ≡ compare (word_in (second i) a) (word_in (second i) b)
  unfolding cmp_part
  second_number Eavt t = refl
  second_number Aevt t = refl
  second_number Avet t = by_integer h a.value b.value t.0 t.1
