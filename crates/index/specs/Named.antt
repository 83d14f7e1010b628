-- What the code's name of an ordering says of it.
use Prim.Native.Nat.{ℕ, compare, Ordering}
use Rattle.std.specs.Prelude.{true, false, ◌≡◌, refl}
use Rattle.std.proofs.Common.{arith, sym}
use borrow.Author.Tests.{lt-ltb, le-ltb, eq-eqb, ne_eqb}
use Rattle.store.specs.Laws.{apart}
use Rattle.std.specs.declared.cmp.Ordering.TheVariants.{Less, Equal, Greater}
use Rattle.std.specs.Ordering as ordering
use Rattle.index.specs.Compare.{cmp_lt, cmp_gt, cmp_eq, three, below, same, above}
use Rattle.index.specs.Order.{and_then, is_less, is_same, named}

pub is_lt : (o : Ordering) → named o ≡ Less → o ≡ Ordering.lt
unfolding named
is_lt Ordering.lt e = refl
is_lt Ordering.eq e = absurd (apart (cc))
is_lt Ordering.gt e = absurd (apart (cc))

pub is_eq : (o : Ordering) → named o ≡ Equal → o ≡ Ordering.eq
unfolding named
is_eq Ordering.lt e = absurd (apart (cc))
is_eq Ordering.eq e = refl
is_eq Ordering.gt e = absurd (apart (cc))

pub is_gt : (o : Ordering) → named o ≡ Greater → o ≡ Ordering.gt
unfolding named
is_gt Ordering.lt e = absurd (apart (cc))
is_gt Ordering.eq e = absurd (apart (cc))
is_gt Ordering.gt e = refl

-- and of the two tests on it
pub less_named : (o : Ordering) → named o ≡ Less → (is_less o ≡ true) × (is_same o ≡ false)
unfolding is_less is_same
less_named o e = rw (is_lt o e) (refl, refl)

pub equal_named : (o : Ordering) → named o ≡ Equal → (is_less o ≡ false) × (is_same o ≡ true)
unfolding is_less is_same
equal_named o e = rw (is_eq o e) (refl, refl)

pub greater_named : (o : Ordering) → named o ≡ Greater → (is_less o ≡ false) × (is_same o ≡ false)
unfolding is_less is_same
greater_named o e = rw (is_gt o e) (refl, refl)

-- orderings of one name are alike
pub named_tells : (o p : Ordering) → named o ≡ named p → is_less o ≡ is_less p
unfolding named is_less
named_tells Ordering.lt p e = sym (less_named p (sym e)).0
named_tells Ordering.eq p e = sym (equal_named p (sym e)).0
named_tells Ordering.gt p e = sym (greater_named p (sym e)).0

-- what the library says of an ordering, of two of them one after the other, and of numbers
pub less_named_law : (o : Ordering) → ordering.is_lt (named o) ≡ is_less o
unfolding named is_less
less_named_law Ordering.lt = refl
less_named_law Ordering.eq = refl
less_named_law Ordering.gt = refl

pub same_named_law : (o : Ordering) → ordering.is_eq (named o) ≡ is_same o
unfolding named is_same
same_named_law Ordering.lt = refl
same_named_law Ordering.eq = refl
same_named_law Ordering.gt = refl

pub then_named : (o p : Ordering) → ordering.ordering_then (named o) (named p) ≡ named (and_then o p)
unfolding named and_then
then_named Ordering.lt p = refl
then_named Ordering.eq p = refl
then_named Ordering.gt p = refl

pub numbers_named : (a b : ℕ) → ordering.nat_cmp a b ≡ named (compare a b)
unfolding named
numbers_named a b = elim (three a b) [
  | below h ↦ rw (lt-ltb a b h, cmp_lt a b h)
  | same e ↦ rw (le-ltb a b (omega arith), eq-eqb a b e, cmp_eq a b e)
  | above h ↦ rw (le-ltb a b (omega arith), ne_eqb a b (λ e. absurd (omega arith)), cmp_gt a b h)
]

pub then_three : (o p q : Ordering) → ordering.ordering_then (ordering.ordering_then (named o) (named p)) (named q) ≡ named (and_then o (and_then p q))
unfolding named and_then
then_three Ordering.lt p q = refl
then_three Ordering.eq p q = then_named p q
then_three Ordering.gt p q = refl
