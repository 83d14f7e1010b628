-- Merge is the increasing union: it has the datoms of both lists and no others, as many as both have, and rises where both rise and
-- no two datoms met are equal.
use Prim.Native.Nat.{suc, ◌+◌, Ordering}
use native.Mathlib.Omega.{arith}
use Rattle.std.specs.Prelude.{Bool, ◌⊎◌, ◌≡◌}
use Rattle.std.proofs.Math.Bool.{true, false}
use mathlib.Core.List.{List, [], ◌∷◌}
use Rattle.std.proofs.Math.Logic.{inl, inr}
use Rattle.std.proofs.Math.Path.{refl}
use Rattle.std.proofs.Math.ListN.{length}
use Rattle.std.proofs.Common.{length-append}
use Rattle.std.proofs.lemmas.List.{length-replicate}
use Rattle.store.specs.declared.PageId.{PageId}
use Rattle.store.specs.Laws.{apart}
use Rattle.datom.specs.declared.Datom.{Datom}
use Rattle.index.specs.Order.{is_less}
use Rattle.index.proofs.Laws.{Preorder}
use Rattle.rules.specs.Node.{merge_datoms, merge_children, meets}
use Rattle.rules.specs.Lists.{In, Rising, turned, below_all}

module _ (cmp : Datom → Datom → Ordering) where
  pub merge_length : (ds new : List Datom) → length (merge_datoms cmp ds new) ≡ length ds + length new
  unfolding merge_datoms
  merge_length [] new = omega arith
  merge_length (d ∷ ds) [] = omega arith
  merge_length (d ∷ ds) (x ∷ xs) = side (is_less (cmp d x)) refl (merge_length ds (x ∷ xs)) (merge_length (d ∷ ds) xs)
    where
      side :
          (b : Bool) → is_less (cmp d x) ≡ b → length (merge_datoms cmp ds (x ∷ xs)) ≡ length ds + suc (length xs) →
          length (merge_datoms cmp (d ∷ ds) xs) ≡ suc (length ds) + length xs →
          length (merge_datoms cmp (d ∷ ds) (x ∷ xs)) ≡ suc (length ds) + suc (length xs)
      side true e h k = rw (e, merge_datoms) (omega arith)
      side false e h k = rw (e, merge_datoms) (omega arith)

  pub merge_children_length :
      (ds : List Datom) (cs : List PageId) (new : List Datom) → length cs ≡ suc (length ds) →
      length (merge_children cmp ds cs new) ≡ length cs + length new
  unfolding merge_children
  merge_children_length [] cs new n = simp (length-append, length-replicate) (omega arith)
  merge_children_length (d ∷ ds) cs [] n = omega arith
  merge_children_length (d ∷ ds) [] (x ∷ xs) n = absurd (omega arith)
  merge_children_length (d ∷ ds) (c ∷ cs) (x ∷ xs) n =
      side (is_less (cmp d x)) refl (merge_children_length ds cs (x ∷ xs) (omega arith)) (merge_children_length (d ∷ ds) (c ∷ cs) xs n)
    where
      side :
          (b : Bool) → is_less (cmp d x) ≡ b → length (merge_children cmp ds cs (x ∷ xs)) ≡ length cs + suc (length xs) →
          length (merge_children cmp (d ∷ ds) (c ∷ cs) xs) ≡ suc (length cs) + length xs →
          length (merge_children cmp (d ∷ ds) (c ∷ cs) (x ∷ xs)) ≡ suc (length cs) + suc (length xs)
      side true e h k = rw (e, merge_children) (omega arith)
      side false e h k = rw (e, merge_children) (omega arith)

  pub merge_out : (y : Datom) (ds new : List Datom) → In y (merge_datoms cmp ds new) → In y ds ⊎ In y new
  unfolding merge_datoms
  merge_out y [] new i = inr i
  merge_out y (d ∷ ds) [] i = inl i
  merge_out y (d ∷ ds) (x ∷ xs) i = side (is_less (cmp d x)) refl (merge_out y ds (x ∷ xs)) (merge_out y (d ∷ ds) xs)
    where
      side :
          (b : Bool) → is_less (cmp d x) ≡ b → (In y (merge_datoms cmp ds (x ∷ xs)) → In y ds ⊎ In y (x ∷ xs)) →
          (In y (merge_datoms cmp (d ∷ ds) xs) → In y (d ∷ ds) ⊎ In y xs) → In y (d ∷ ds) ⊎ In y (x ∷ xs)
      side true e h k =
          let j : (y ≡ d) ⊎ In y (merge_datoms cmp ds (x ∷ xs)) = rw (e, merge_datoms) at i in
          elim j [ inl q ↦ inl (inl q) | inr q ↦ elim (h q) [ inl v ↦ inl (inr v) | inr v ↦ inr v ] ]
      side false e h k =
          let j : (y ≡ x) ⊎ In y (merge_datoms cmp (d ∷ ds) xs) = rw (e, merge_datoms) at i in
          elim j [ inl q ↦ inr (inl q) | inr q ↦ elim (k q) [ inl v ↦ inl v | inr v ↦ inr (inr v) ] ]

  pub merge_back : (y : Datom) (ds new : List Datom) → In y ds ⊎ In y new → In y (merge_datoms cmp ds new)
  unfolding merge_datoms
  merge_back y [] new i = elim i [ inl j ↦ absurd j | inr j ↦ j ]
  merge_back y (d ∷ ds) [] i = elim i [ inl j ↦ j | inr j ↦ absurd j ]
  merge_back y (d ∷ ds) (x ∷ xs) i = side (is_less (cmp d x)) refl (merge_back y ds (x ∷ xs)) (merge_back y (d ∷ ds) xs)
    where
      side :
          (b : Bool) → is_less (cmp d x) ≡ b → (In y ds ⊎ In y (x ∷ xs) → In y (merge_datoms cmp ds (x ∷ xs))) →
          (In y (d ∷ ds) ⊎ In y xs → In y (merge_datoms cmp (d ∷ ds) xs)) → In y (merge_datoms cmp (d ∷ ds) (x ∷ xs))
      side true e h k =
          rw (e, merge_datoms) (elim i [ inl j ↦ elim j [ inl q ↦ inl q | inr q ↦ inr (h (inl q)) ] | inr j ↦ inr (h (inr j)) ])
      side false e h k =
          rw (e, merge_datoms) (elim i [ inl j ↦ inr (k (inl j)) | inr j ↦ elim j [ inl q ↦ inl q | inr q ↦ inr (k (inr q)) ] ])

module _ (cmp : Datom → Datom → Ordering) (L : Preorder cmp) where
  pub merge_rising :
      (ds new : List Datom) → Rising cmp ds → Rising cmp new → meets cmp ds new ≡ false → Rising cmp (merge_datoms cmp ds new)
  unfolding merge_datoms meets is_less
  merge_rising [] new r s m = s
  merge_rising (d ∷ ds) [] r s m = r
  merge_rising (d ∷ ds) (x ∷ xs) r s m =
      side (cmp d x) refl (merge_rising ds (x ∷ xs) r.1 s) (merge_rising (d ∷ ds) xs r s.1)
    where
      side :
          (o : Ordering) → cmp d x ≡ o → (meets cmp ds (x ∷ xs) ≡ false → Rising cmp (merge_datoms cmp ds (x ∷ xs))) →
          (meets cmp (d ∷ ds) xs ≡ false → Rising cmp (merge_datoms cmp (d ∷ ds) xs)) → Rising cmp (merge_datoms cmp (d ∷ ds) (x ∷ xs))
      side Ordering.lt e h k =
          rw (e, merge_datoms)
          (λ y i. elim (merge_out cmp y ds (x ∷ xs) i) [ inl j ↦ r.0 y j | inr j ↦ below_all cmp L d x xs e s y j ], h (rw (e, meets) at m))
      side Ordering.eq e h k = let z : true ≡ false = rw (e, meets) at m in absurd (apart (cc))
      side Ordering.gt e h k =
          rw (e, merge_datoms)
          (λ y i. elim (merge_out cmp y (d ∷ ds) xs i) [ inl j ↦ below_all cmp L x d ds (turned cmp L e) r y j | inr j ↦ s.0 y j ], k (rw (e, meets) at m))
