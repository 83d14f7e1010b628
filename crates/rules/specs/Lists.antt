-- Lists of datoms: membership, and rising as a fact about every later datom; from the rules' tests to these and back.
use Prim.Native.Nat.{ℕ, zero, suc, ◌<◌, ◌≤◌, zero-le, suc-le-suc, Ordering}
use Rattle.std.proofs.Common.{arith, inl, inr, ◌∙◌, ap}
use Rattle.std.specs.Prelude.{Bool, true, false, ◌⊎◌, ◌≡◌, length, get_or}
use mathlib.Core.List.{List, [], ◌∷◌, ◌++◌}
use Rattle.std.proofs.Math.Path.{refl}
use Rattle.store.specs.Laws.{apart, both}
use Rattle.datom.specs.declared.Datom.{Datom}
use Rattle.index.specs.Order.{is_less}
use Rattle.index.proofs.Laws.{flipped, Preorder}
use Rattle.rules.specs.Page.{all, above, rising}
use Rattle.rules.specs.Node.{rank_by}

-- x stands in the list
abbrev pub In : {A : Type 0} → A → List A → Type 0
In x [] = ⊥
In x (y ∷ ys) = (x ≡ y) ⊎ In x ys

pub in_left : {A : Type 0} (x : A) (xs ys : List A) → In x xs → In x (xs ++ ys)
in_left {A = A} x [] ys x'' = elim x'' [ ]
in_left x (z ∷ zs) ys (inl e) = inl e
in_left x (z ∷ zs) ys (inr i) = inr (in_left x zs ys i)

pub in_right : {A : Type 0} (x : A) (xs ys : List A) → In x ys → In x (xs ++ ys)
in_right x [] ys i = i
in_right x (z ∷ zs) ys i = inr (in_right x zs ys i)

pub in_append : {A : Type 0} (x : A) (xs ys : List A) → In x (xs ++ ys) → In x xs ⊎ In x ys
in_append x [] ys i = inr i
in_append x (z ∷ zs) ys (inl e) = inl (inl e)
in_append x (z ∷ zs) ys (inr i) = elim (in_append x zs ys i) [ inl j ↦ inl (inr j) | inr j ↦ inr j ]

pub in_get_d : {A : Type 0} (xs : List A) (i : ℕ) (d : A) → i < length xs → In (get_or xs i d) xs
in_get_d [] i d h = absurd (omega arith)
in_get_d (x ∷ xs) zero d h = inl refl
in_get_d (x ∷ xs) (suc i) d h = inr (in_get_d xs i d (omega arith))

module _ {A : Type 0} (ok : A → Bool) where
  pub all_in : (xs : List A) → all ok xs ≡ true → (x : A) → In x xs → ok x ≡ true
  unfolding all
  all_in [] h x x4 = elim x4 [ ]
  all_in (y ∷ ys) h x (inl e) = rw e (both (ok y) (all ok ys) h).0
  all_in (y ∷ ys) h x (inr i) = all_in ys (both (ok y) (all ok ys) h).1 x i

  pub all_of : (xs : List A) → ((x : A) → In x xs → ok x ≡ true) → all ok xs ≡ true
  unfolding all
  all_of [] h = refl
  all_of (x ∷ xs) h = rw (h x (inl refl), all_of xs (λ y i. h y (inr i)))

-- each datom is below every later one
abbrev pub Rising : (Datom → Datom → Ordering) → List Datom → Type 0
Rising cmp [] = Unit {0}
Rising cmp (d ∷ ds) = ((x : Datom) → In x ds → cmp d x ≡ Ordering.lt) × Rising cmp ds

module _ (cmp : Datom → Datom → Ordering) where
  pub less : (a b : Datom) → is_less (cmp a b) ≡ true → cmp a b ≡ Ordering.lt
  unfolding is_less
  less a b h = side (cmp a b) refl
    where
      side : (o : Ordering) → cmp a b ≡ o → cmp a b ≡ Ordering.lt
      side Ordering.lt e = e
      side Ordering.eq e = absurd (apart (cc))
      side Ordering.gt e = absurd (apart (cc))

  above_of : (d : Datom) (ds : List Datom) → Rising cmp (d ∷ ds) → above cmp d ds ≡ true
  unfolding above is_less
  above_of d [] r = refl
  above_of d (x ∷ xs) r = rw (r.0 x (inl refl), above_of x xs r.1)

  pub rising_of : (ds : List Datom) → Rising cmp ds → rising cmp ds ≡ true
  unfolding rising
  rising_of [] r = refl
  rising_of (d ∷ ds) r = above_of d ds r

module _ (cmp : Datom → Datom → Ordering) (L : Preorder cmp) where
  -- what stands the other way round
  pub turned : {a b : Datom} {o : Ordering} → cmp a b ≡ o → cmp b a ≡ flipped o
  turned {a} {b} e = L.flip a b ∙ ap flipped e

  above_in : (d : Datom) (ds : List Datom) → above cmp d ds ≡ true → (x : Datom) → In x ds → cmp d x ≡ Ordering.lt
  unfolding above
  above_in d [] h x x4 = elim x4 [ ]
  above_in d (y ∷ ys) h x (inl e) = rw e (less cmp d y (both (is_less (cmp d y)) (above cmp y ys) h).0)
  above_in d (y ∷ ys) h x (inr i) =
      let w = both (is_less (cmp d y)) (above cmp y ys) h in
      L.trans d y x (less cmp d y w.0) (above_in y ys w.1 x i)

  rest_rising : (d : Datom) (ds : List Datom) → above cmp d ds ≡ true → Rising cmp (d ∷ ds)
  unfolding above
  rest_rising d [] h = (λ x i. absurd i, tt)
  rest_rising d (y ∷ ys) h = (above_in d (y ∷ ys) h, rest_rising y ys (both (is_less (cmp d y)) (above cmp y ys) h).1)

  pub rising_in : (ds : List Datom) → rising cmp ds ≡ true → Rising cmp ds
  unfolding rising
  rising_in [] h = tt
  rising_in (d ∷ ds) h = rest_rising d ds h

  -- what is below the head of a rising list is below all of it
  pub below_all :
      (d x : Datom) (xs : List Datom) → cmp d x ≡ Ordering.lt → Rising cmp (x ∷ xs) → (y : Datom) → In y (x ∷ xs) → cmp d y ≡ Ordering.lt
  below_all d x xs e r y (inl i) = rw i e
  below_all d x xs e r y (inr i) = L.trans d x y e (r.0 y i)

-- no more datoms at the front pass a test than there are
pub rank_most : (p : Datom → Bool) (ds : List Datom) → rank_by p ds ≤ length ds
unfolding rank_by
rank_most p [] = zero-le
rank_most p (d ∷ ds) = side (p d) refl (rank_most p ds)
  where
    side : (b : Bool) → p d ≡ b → rank_by p ds ≤ length ds → rank_by p (d ∷ ds) ≤ suc (length ds)
    side true e h = rw (e, rank_by) (suc-le-suc h)
    side false e h = rw (e, rank_by) zero-le
