-- Facts of `compare`.
use Prim.Native.Nat.compare
use Prim.Native.Nat.{Ordering}
use Prim.Native.Nat.{ℕ, zero, suc, ◌+◌, ◌*◌, ◌<◌, ◌≤◌, compare}
use Rattle.std.specs.Prelude.{◌≡◌, refl}
use Rattle.std.proofs.Common.{ap, ◌∙◌, arith, mul-le-mul_right}
use Rattle.std.specs.Int.Bits.{bit_or, or_add_and}
use Rattle.std.proofs.lemmas.Nat.{and_le_l, and_le_r}
use Rattle.index.specs.Order.{and_then}

pub cmp_lt : (a b : ℕ) → a < b → compare a b ≡ Ordering.lt
cmp_lt zero zero h = absurd (omega arith)
cmp_lt zero (suc b) h = compare.zero-suc b
cmp_lt (suc a) zero h = absurd (omega arith)
cmp_lt (suc a) (suc b) h = compare.suc-suc a b ∙ cmp_lt a b (omega arith)

pub cmp_gt : (a b : ℕ) → b < a → compare a b ≡ Ordering.gt
cmp_gt zero zero h = absurd (omega arith)
cmp_gt zero (suc b) h = absurd (omega arith)
cmp_gt (suc a) zero h = compare.suc-zero a
cmp_gt (suc a) (suc b) h = compare.suc-suc a b ∙ cmp_gt a b (omega arith)

pub cmp_same : (a : ℕ) → compare a a ≡ Ordering.eq
cmp_same zero = compare.zero-zero
cmp_same (suc a) = compare.suc-suc a a ∙ cmp_same a

pub cmp_eq : (a b : ℕ) → a ≡ b → compare a b ≡ Ordering.eq
cmp_eq a b e = rw e (cmp_same b)

-- one of the three
pub data Three (a b : ℕ) : Type 0 where
  below : a < b → Three a b
  same : a ≡ b → Three a b
  above : b < a → Three a b

pub three : (a b : ℕ) → Three a b
three zero zero = same refl
three zero (suc b) = below (omega arith)
three (suc a) zero = above (omega arith)
three (suc a) (suc b) =
    elim (three a b) [ below h ↦ below (omega arith) | same e ↦ same (ap suc e) | above h ↦ above (omega arith) ]

-- one digit before the rest: x, y the digits, w the digit's weight, p, q the rests
pub digit : (w x y p q : ℕ) → p < w → q < w → and_then (compare x y) (compare p q) ≡ compare (x * w + p) (y * w + q)
unfolding and_then
digit w x y p q hp hq =
    elim (three x y) [
      | below h ↦
          let m : (x + 1) * w ≤ y * w = mul-le-mul_right w (omega arith) in
          rw (cmp_lt x y h, cmp_lt (x * w + p) (y * w + q) (omega arith))
      | above h ↦
          let m : (y + 1) * w ≤ x * w = mul-le-mul_right w (omega arith) in
          rw (cmp_gt x y h, cmp_gt (x * w + p) (y * w + q) (omega arith))
      | same e ↦
          rw (e, cmp_same y)
          (elim (three p q) [
            | below h ↦ rw (cmp_lt p q h, cmp_lt (y * w + p) (y * w + q) (omega arith))
            | above h ↦ rw (cmp_gt p q h, cmp_gt (y * w + p) (y * w + q) (omega arith))
            | same e' ↦ rw (e', cmp_same q, cmp_same (y * w + q))
          ])
    ]

pub shifted : (k p q : ℕ) → compare p q ≡ compare (k + p) (k + q)
shifted k p q =
    elim (three p q) [
      | below h ↦ rw (cmp_lt p q h, cmp_lt (k + p) (k + q) (omega arith))
      | above h ↦ rw (cmp_gt p q h, cmp_gt (k + p) (k + q) (omega arith))
      | same e ↦ rw (e, cmp_same q, cmp_same (k + q))
    ]

-- a number is no larger than its bits with those of another
pub or_left : (a b : ℕ) → a ≤ bit_or a b
or_left a b = omega (arith, or_add_and a b, and_le_r a b)

pub or_right : (a b : ℕ) → b ≤ bit_or a b
or_right a b = omega (arith, or_add_and a b, and_le_l a b)
