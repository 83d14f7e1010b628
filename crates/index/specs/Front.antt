-- What the first two words of an order tell by themselves, and when they do.
use Rattle.std.specs.Prelude.{ℕ, ◌^◌, ◌<◌, Bool, true, false, ◌&&◌, ◌||◌, not, ◌≡◌, refl, ltb, eqb}
use Rattle.std.proofs.Common.{arith, ltb-true}
use Rattle.std.specs.Int.Bits.{bit_or}
use Rattle.store.specs.Laws.{apart}
use Rattle.datom.specs.declared.Value.{Value}
use Rattle.index.specs.declared.Index.{Index}
use Rattle.index.specs.declared.Index.TheVariants.{Eavt, Aevt, Avet}
use Rattle.index.specs.Compare.{or_left, or_right}

-- two values are integers in their words
abbrev pub both_integers : Value → Value → Bool
both_integers v w = ltb (bit_or v.0 w.0) (2 ^ 62)

pub both_small : (v w : Value) → both_integers v w ≡ true → (v.0 < 2 ^ 62) × (w.0 < 2 ^ 62)
both_small v w e =
    let both : bit_or v.0 w.0 < 2 ^ 62 = ltb-true _ _ e in
    (omega (arith, both, or_left v.0 w.0), omega (arith, both, or_right v.0 w.0))

-- the entity comes first; the value comes straight behind the attribute
abbrev pub by_entity : Index → Bool
by_entity Eavt = true
by_entity Aevt = false
by_entity Avet = false

abbrev pub by_value : Index → Bool
by_value Eavt = false
by_value Aevt = false
by_value Avet = true

-- the second words of an order are different, and tell: numbers of any size, values as integers in their words
unfoldable pub second_decides : Index → ℕ → ℕ → Bool
second_decides i u v = not (eqb u v) && (ltb (bit_or u v) (2 ^ 62) || not (by_value i))

-- each order is known by the tests by_entity and by_value
pub the_eavt : (i : Index) → by_entity i ≡ true → i ≡ Eavt
the_eavt Eavt e = refl
the_eavt Aevt e = absurd (apart (cc))
the_eavt Avet e = absurd (apart (cc))

pub the_aevt : (i : Index) → by_entity i ≡ false → by_value i ≡ false → i ≡ Aevt
the_aevt Eavt e f = absurd (apart (cc))
the_aevt Aevt e f = refl
the_aevt Avet e f = absurd (apart (cc))

pub the_avet : (i : Index) → by_value i ≡ true → i ≡ Avet
the_avet Eavt e = absurd (apart (cc))
the_avet Aevt e = absurd (apart (cc))
the_avet Avet e = refl
