-- The ways through a comparison of two datoms.
use Prim.Native.Nat.{ℕ, ◌<◌, compare, Ordering}
use Rattle.std.proofs.Common.{inl, inr, ◌∙◌}
use Rattle.std.specs.Prelude.{List, [], ◌∷◌, true, ◌⊎◌, ◌≡◌, refl}
use Rattle.store.specs.Laws.{apart}
use Rattle.datom.specs.declared.Datom.{Datom}
use Rattle.index.specs.declared.Index.{Index}
use Rattle.index.specs.declared.Index.TheVariants.{Eavt, Aevt, Avet}
use Rattle.std.specs.declared.cmp.Ordering.TheVariants.{Less, Equal, Greater}
use Rattle.index.specs.Order.{and_then, cmp_value, Part, the_last, cmp_part, cmp_parts, parts_of, order_in, named}
use Rattle.index.specs.Compare.{cmp_lt, cmp_gt, cmp_eq}
use Rattle.index.specs.Front.{by_value}
use Rattle.index.specs.Parts.{word_in, first, second, third, later, SecondTells}
use Rattle.index.proofs.PartWords.{parts_of_law, first_number, second_number}

-- nothing behind it
then_nothing : (o : Ordering) → and_then o Ordering.eq ≡ o
unfolding and_then
then_nothing Ordering.lt = refl
then_nothing Ordering.eq = refl
then_nothing Ordering.gt = refl

-- by the first of two, or by the second where that is equal
pub less_front : (o u : Ordering) → named o ≡ Less → Less ≡ named (and_then o u)
unfolding and_then named
less_front Ordering.lt u e = refl
less_front Ordering.eq u e = absurd (apart (cc))
less_front Ordering.gt u e = absurd (apart (cc))

pub greater_front : (o u : Ordering) → named o ≡ Greater → Greater ≡ named (and_then o u)
unfolding and_then named
greater_front Ordering.lt u e = absurd (apart (cc))
greater_front Ordering.eq u e = absurd (apart (cc))
greater_front Ordering.gt u e = refl

pub equal_front : (o u : Ordering) → named o ≡ Equal → named u ≡ named (and_then o u)
unfolding and_then named
equal_front Ordering.lt u e = absurd (apart (cc))
equal_front Ordering.eq u e = refl
equal_front Ordering.gt u e = absurd (apart (cc))

-- by numbers
module _ (s t : ℕ) where
  pub less_number : s < t → Less ≡ named (compare s t)
  unfolding named
  less_number p = rw (cmp_lt s t p)

  pub greater_number : t < s → Greater ≡ named (compare s t)
  unfolding named
  greater_number p = rw (cmp_gt s t p)

  pub same_number : s ≡ t → Equal ≡ named (compare s t)
  unfolding named
  same_number p = rw (cmp_eq s t p)

-- by a part that is a number, or on to the parts behind it
module _ (h : List ℕ) (p : Part) (ps : List Part) (a b : Datom) (x y : ℕ) (by : cmp_part h p a b ≡ compare x y) where
  pub less_part : x < y → Less ≡ named (cmp_parts h (p ∷ ps) a b)
  unfolding cmp_parts and_then named
  less_part l = simp (by, cmp_lt x y l)

  pub greater_part : y < x → Greater ≡ named (cmp_parts h (p ∷ ps) a b)
  unfolding cmp_parts and_then named
  greater_part l = simp (by, cmp_gt x y l)

  pub on_part : x ≡ y → named (cmp_parts h ps a b) ≡ named (cmp_parts h (p ∷ ps) a b)
  unfolding cmp_parts and_then
  on_part e = simp (by, cmp_eq x y e)

-- the first part of an order
module _ (i : Index) (h : List ℕ) (a b : Datom) where
  pub less_first : word_in (first i) a < word_in (first i) b → Less ≡ named ((order_in i h).cmp a b)
  unfolding order_in
  less_first l = rw (parts_of_law i) (less_part h (first i) (later i) a b _ _ (first_number h a b i) l)

  pub greater_first : word_in (first i) b < word_in (first i) a → Greater ≡ named ((order_in i h).cmp a b)
  unfolding order_in
  greater_first l = rw (parts_of_law i) (greater_part h (first i) (later i) a b _ _ (first_number h a b i) l)

  pub on_to_later : word_in (first i) a ≡ word_in (first i) b → named (cmp_parts h (later i) a b) ≡ named ((order_in i h).cmp a b)
  unfolding order_in
  on_to_later e = rw (parts_of_law i) (on_part h (first i) (later i) a b _ _ (first_number h a b i) e)

  -- the first two, where the second words tell
  pub less_two :
      SecondTells i a b → word_in (first i) a ≡ word_in (first i) b → word_in (second i) a < word_in (second i) b →
      Less ≡ named ((order_in i h).cmp a b)
  less_two t e l = less_part h (second i) (third i ∷ the_last ∷ []) a b _ _ (second_number h a b i t) l ∙ on_to_later e

  pub greater_two :
      SecondTells i a b → word_in (first i) a ≡ word_in (first i) b → word_in (second i) b < word_in (second i) a →
      Greater ≡ named ((order_in i h).cmp a b)
  greater_two t e l = greater_part h (second i) (third i ∷ the_last ∷ []) a b _ _ (second_number h a b i t) l ∙ on_to_later e

-- the values, where nothing before them is different
module _ (h : List ℕ) (a b : Datom) where
  abbrev pub values : Ordering
  values = cmp_value h a.value b.value

  abbrev pub last : Ordering
  last = compare a.transaction_operation.0 b.transaction_operation.0

  -- then the entity, which is the same where it came before
  pub behind_attribute :
      (i : Index) → a.attribute.0 ≡ b.attribute.0 → (by_value i ≡ true) ⊎ (a.entity.0 ≡ b.entity.0) →
      named (and_then values (and_then (compare a.entity.0 b.entity.0) last)) ≡ named ((order_in i h).cmp a b)
  unfolding order_in parts_of cmp_parts cmp_part and_then
  behind_attribute Eavt f (inl v) = absurd (apart (cc))
  behind_attribute Eavt f (inr e) = simp (cmp_eq _ _ e, cmp_eq _ _ f, then_nothing last)
  behind_attribute Aevt f (inl v) = absurd (apart (cc))
  behind_attribute Aevt f (inr e) = simp (cmp_eq _ _ e, cmp_eq _ _ f, then_nothing last)
  behind_attribute Avet f t = simp (cmp_eq _ _ f, then_nothing last)
