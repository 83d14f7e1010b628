-- Facts on a total preorder of datoms, and on tests made from it. Rests on the order's laws alone: datoms that compare equal need not
-- be the same.
use Prim.Native.Nat.{Ordering}
use Rattle.std.specs.Prelude.{Bool, false, not, ◌⊎◌, ◌≡◌}
use Rattle.std.proofs.Math.Bool.{true}
use Rattle.std.proofs.Common.{inl, inr, sym, ◌∙◌}
use Rattle.std.proofs.Math.Path.{refl}
use Rattle.store.specs.Laws.{apart}
use Rattle.datom.specs.declared.Datom.{Datom}
use Rattle.index.specs.Order.{is_less}
use Rattle.index.proofs.Laws.{Preorder}
use Rattle.rules.specs.Node.{below}
use Rattle.rules.specs.Lists.{turned}

pub clash : {b : Bool} → b ≡ false → b ≡ true → ⊥
clash u v = apart (cc)

pub is_true : (b : Bool) → (b ≡ false → ⊥) → b ≡ true
is_true true n = refl
is_true false n = absurd (n refl)

pub is_false : (b : Bool) → (b ≡ true → ⊥) → b ≡ false
is_false true n = absurd (n refl)
is_false false n = refl

pub same_test : (a b : Bool) → (a ≡ true → b ≡ true) → (b ≡ true → a ≡ true) → a ≡ b
same_test true b h k = sym (h refl)
same_test false true h k = k refl
same_test false false h k = refl

-- the test "not above d"
abbrev pub up_to : (Datom → Datom → Ordering) → Datom → Datom → Bool
up_to cmp d x = not (is_less (cmp d x))

module _ (cmp : Datom → Datom → Ordering) where
  -- a test that holds of all that is below something of which it holds
  abbrev pub Front : (Datom → Bool) → Type 0
  Front p = (x y : Datom) → cmp x y ≡ Ordering.lt → p y ≡ true → p x ≡ true

  abbrev pub AtMost : Datom → Datom → Type 0
  AtMost y x = (x ≡ y) ⊎ (cmp y x ≡ Ordering.lt)

  pub not_both : {a b : Datom} → cmp a b ≡ Ordering.lt → cmp a b ≡ Ordering.eq → ⊥
  not_both p q = apart (cc)

  pub up_false : {d x : Datom} → cmp d x ≡ Ordering.lt → up_to cmp d x ≡ false
  unfolding is_less
  up_false e = rw e

  pub up_true : {d x : Datom} → (cmp d x ≡ Ordering.lt → ⊥) → up_to cmp d x ≡ true
  unfolding is_less
  up_true {d} {x} n = side (cmp d x) refl
    where
      side : (o : Ordering) → cmp d x ≡ o → up_to cmp d x ≡ true
      side Ordering.lt e = absurd (n e)
      side Ordering.eq e = rw e
      side Ordering.gt e = rw e

  pub up_above : (d x : Datom) → up_to cmp d x ≡ false → cmp d x ≡ Ordering.lt
  unfolding is_less
  up_above d x e = side (cmp d x) refl
    where
      side : (o : Ordering) → cmp d x ≡ o → cmp d x ≡ Ordering.lt
      side Ordering.lt q = q
      side Ordering.eq q = absurd (clash e (rw q))
      side Ordering.gt q = absurd (clash e (rw q))

module _ (cmp : Datom → Datom → Ordering) (L : Preorder cmp) where
  pub same_self : (a : Datom) → cmp a a ≡ Ordering.eq
  same_self a = side (cmp a a) refl
    where
      side : (o : Ordering) → cmp a a ≡ o → cmp a a ≡ Ordering.eq
      side Ordering.lt e = absurd (apart (cc (L.flip a a, e)))
      side Ordering.eq e = e
      side Ordering.gt e = absurd (apart (cc (L.flip a a, e)))

  pub below_same : {a b c : Datom} → cmp a b ≡ Ordering.lt → cmp b c ≡ Ordering.eq → cmp a c ≡ Ordering.lt
  below_same {a} {b} {c} p q = turned cmp L (sym (L.congr b c a q) ∙ turned cmp L p)

  pub same_below_law : {a b c : Datom} → cmp a b ≡ Ordering.eq → cmp b c ≡ Ordering.lt → cmp a c ≡ Ordering.lt
  same_below_law {a} {b} {c} p q = L.congr a b c p ∙ q

  pub one_way : {a b : Datom} → cmp a b ≡ Ordering.lt → cmp b a ≡ Ordering.lt → ⊥
  one_way {a} {b} p q = let k : cmp b a ≡ Ordering.gt = turned cmp L p in apart (cc)

  pub not_self : {a b : Datom} → a ≡ b → cmp a b ≡ Ordering.lt → ⊥
  not_self {a} {b} e q = one_way q (rw e (rw e at q))

  -- not below and not equal: above
  pub other : (d x : Datom) → is_less (cmp d x) ≡ false → (cmp x d ≡ Ordering.eq → ⊥) → cmp x d ≡ Ordering.lt
  unfolding is_less
  other d x e n = side (cmp d x) refl
    where
      side : (o : Ordering) → cmp d x ≡ o → cmp x d ≡ Ordering.lt
      side Ordering.lt q = absurd (clash e (rw q))
      side Ordering.eq q = absurd (n (turned cmp L q))
      side Ordering.gt q = turned cmp L q

  -- below d, and d at most z: below z
  pub lower : {x d z : Datom} → cmp x d ≡ Ordering.lt → AtMost cmp d z → cmp x z ≡ Ordering.lt
  lower e (inl q) = rw q e
  lower {x} {d} {z} e (inr q) = L.trans x d z e q

  pub below_front : (d : Datom) → Front cmp (below cmp d)
  unfolding is_less
  below_front d x y a b = side (cmp y d) refl
    where
      side : (o : Ordering) → cmp y d ≡ o → is_less (cmp x d) ≡ true
      side Ordering.lt e = rw (L.trans x y d a e)
      side Ordering.eq e = absurd (clash (rw e) b)
      side Ordering.gt e = absurd (clash (rw e) b)

  pub up_front : (d : Datom) → Front cmp (up_to cmp d)
  up_front d x y a b = up_true cmp λ q. clash (up_false cmp (L.trans d x y q a)) b
