-- The parts of an order one by one: which comes when, in which word of a datom it stands, and when it is a number.
use Prim.Native.Nat.{ℕ, ◌+◌, ◌^◌, ◌<◌, ◌≤◌}
use Rattle.std.proofs.Common.{arith}
use Rattle.std.specs.Prelude.{List, [], ◌∷◌, false, ◌≡◌}
use Rattle.std.proofs.Math.Path.{refl}
use Rattle.store.specs.Laws.{apart}
use Rattle.store.specs.Words.{word_at}
use Rattle.datom.specs.declared.Datom.{Datom}
use Rattle.datom.specs.Datom.{datom_at}
use Rattle.index.specs.declared.Index.{Index}
use Rattle.index.specs.declared.Index.TheVariants.{Eavt, Aevt, Avet}
use Rattle.index.specs.Order.{Part, the_entity, the_attribute, the_value, the_last}
use Rattle.index.specs.Front.{by_entity}

-- the word of a datom that a part stands in, and where it is in the datom's bytes
abbrev pub word_in : Part → Datom → ℕ
word_in the_entity d = d.entity.0
word_in the_attribute d = d.attribute.0
word_in the_value d = d.value.0
word_in the_last d = d.transaction_operation.0

abbrev pub place_of : Part → ℕ
place_of the_entity = 0
place_of the_attribute = 8
place_of the_value = 16
place_of the_last = 24

pub place_fits : (p : Part) → place_of p ≤ 24
place_fits the_entity = omega arith
place_fits the_attribute = omega arith
place_fits the_value = omega arith
place_fits the_last = omega arith

-- a part's word, where it stands among the bytes
pub word_there_law : (s : List ℕ) (at : ℕ) (p : Part) → word_in p (datom_at s at) ≡ word_at s (at + place_of p)
unfolding datom_at
word_there_law s at the_entity = let e : at + 0 ≡ at = omega arith in rw e
word_there_law s at the_attribute = refl
word_there_law s at the_value = refl
word_there_law s at the_last = refl

-- the parts of each order, one by one
abbrev pub first : Index → Part
first Eavt = the_entity
first Aevt = the_attribute
first Avet = the_attribute

abbrev pub second : Index → Part
second Eavt = the_attribute
second Aevt = the_entity
second Avet = the_value

abbrev pub third : Index → Part
third Eavt = the_value
third Aevt = the_value
third Avet = the_entity

-- those behind the first
abbrev pub later : Index → List Part
later i = second i ∷ third i ∷ the_last ∷ []

-- the attribute comes first where the entity does not
pub attribute_first : (i : Index) (d : Datom) → by_entity i ≡ false → word_in (first i) d ≡ d.attribute.0
attribute_first Eavt d e = absurd (apart (cc))
attribute_first Aevt d e = refl
attribute_first Avet d e = refl

-- the second words tell: a value only where it is an integer in its word
abbrev pub SecondTells : Index → Datom → Datom → Type 0
SecondTells Eavt a b = Unit {0}
SecondTells Aevt a b = Unit {0}
SecondTells Avet a b = (a.value.0 < 2 ^ 62) × (b.value.0 < 2 ^ 62)

-- as small numbers do in every order
pub small_tells : (i : Index) (a b : Datom) → word_in (second i) a < 2 ^ 62 → word_in (second i) b < 2 ^ 62 → SecondTells i a b
small_tells Eavt a b p q = tt
small_tells Aevt a b p q = tt
small_tells Avet a b p q = (p, q)
