-- A batch sorted: the same datoms, and rising where no two of them are equal; which datoms lie between two bounds.
-- Rests on the order's laws.
use Prim.Native.Nat.{Ordering}
use Rattle.std.specs.Prelude.{Bool, ◌&&◌, not, cond, ◌↔◌, ◌≡◌}
use Rattle.std.proofs.Math.Bool.{true, false}
use mathlib.Core.List.{List, [], ◌∷◌, ◌++◌}
use Rattle.std.proofs.Math.Logic.{inl, inr}
use mathlib.Core.Logic.Iff as Iff
use Rattle.std.proofs.Math.Path.{refl}
use Rattle.std.proofs.Common.{sym, ◌∙◌, ap₂}
use Rattle.datom.specs.declared.Datom.{Datom}
use Rattle.index.specs.Order.{is_less}
use Rattle.index.proofs.Laws.{Preorder}
use Rattle.rules.specs.Node.{below}
use Rattle.rules.specs.Insert.{place, sort}
use Rattle.rules.specs.Lists.{In, in_append, Rising, less, turned, below_all}
use Rattle.history.specs.Order.{clash, not_both, not_self, one_way, same_below_law, other}

-- what lies from the lower bound up to but not including the upper
unfoldable pub within : (Datom → Datom → Ordering) → Datom → Datom → List Datom → List Datom
within cmp lo hi [] = []
within cmp lo hi (d ∷ ds) = let rest = within cmp lo hi ds in cond (not (below cmp lo d) && below cmp hi d) (d ∷ rest) rest

-- no two equal
abbrev pub Distinct : (Datom → Datom → Ordering) → List Datom → Type 0
Distinct cmp [] = Unit {0}
Distinct cmp (d ∷ ds) = ((x : Datom) → In x ds → cmp d x ≡ Ordering.eq → ⊥) × Distinct cmp ds

-- no datom of the one equal to one of the other
abbrev pub Fresh : (Datom → Datom → Ordering) → List Datom → List Datom → Type 0
Fresh cmp b u = (x y : Datom) → In x b → In y u → cmp x y ≡ Ordering.eq → ⊥

module _ (cmp : Datom → Datom → Ordering) where
  pub rising_distinct : (ds : List Datom) → Rising cmp ds → Distinct cmp ds
  rising_distinct [] r = tt
  rising_distinct (d ∷ ds) r = (λ x i. not_both cmp (r.0 x i), rising_distinct ds r.1)

  pub distinct_append : (b u : List Datom) → Distinct cmp b → Distinct cmp u → Fresh cmp b u → Distinct cmp (b ++ u)
  distinct_append [] u p q f = q
  distinct_append (d ∷ b) u p q f =
      (λ x i. elim (in_append x b u i) [ inl j ↦ p.0 x j | inr j ↦ f d x (inl refl) j ], distinct_append b u p.1 q (λ x y i. f x y (inr i)))

  place_in : (d : Datom) (s : List Datom) (x : Datom) → In x (place cmp d s) ↔ In x (d ∷ s)
  unfolding place
  place_in d [] x = Iff.rfl
  place_in d (y ∷ s) x = side (is_less (cmp y d)) refl (place_in d s x)
    where
      side : (b : Bool) → is_less (cmp y d) ≡ b → In x (place cmp d s) ↔ In x (d ∷ s) → In x (place cmp d (y ∷ s)) ↔ In x (d ∷ y ∷ s)
      side false e ih = rw e Iff.rfl
      side true e ih =
          rw e (
            λ i. elim i [ inl j ↦ inr (inl j) | inr j ↦ elim (ih.0 j) [ inl k ↦ inl k | inr k ↦ inr (inr k) ] ],
            λ i. elim i [ inl j ↦ inr (ih.1 (inl j)) | inr j ↦ elim j [ inl k ↦ inl k | inr k ↦ inr (ih.1 (inr k)) ] ],
          )

  pub sort_in : (ds : List Datom) (x : Datom) → In x (sort cmp ds) ↔ In x ds
  unfolding sort
  sort_in [] x = Iff.rfl
  sort_in (d ∷ ds) x =
      let p = place_in d (sort cmp ds) x in
      let ih = sort_in ds x in
      (λ i. elim (p.0 i) [ inl j ↦ inl j | inr j ↦ inr (ih.0 j) ], λ i. p.1 (elim i [ inl j ↦ inl j | inr j ↦ inr (ih.1 j) ]))

  pub within_in :
      (lo hi : Datom) (u : List Datom) (x : Datom) →
      In x (within cmp lo hi u) ↔ (In x u × (below cmp lo x ≡ false) × (below cmp hi x ≡ true))
  unfolding within
  within_in lo hi [] x = (λ i. absurd i, λ i. i.0)
  within_in lo hi (d ∷ u) x = side (below cmp lo d) refl (below cmp hi d) refl (within_in lo hi u x)
    where
      side :
          (a : Bool) → below cmp lo d ≡ a → (b : Bool) → below cmp hi d ≡ b →
          In x (within cmp lo hi u) ↔ (In x u × (below cmp lo x ≡ false) × (below cmp hi x ≡ true)) →
          In x (within cmp lo hi (d ∷ u)) ↔ (In x (d ∷ u) × (below cmp lo x ≡ false) × (below cmp hi x ≡ true))
      side true p b q ih =
          rw p (
            λ i. let w = ih.0 i in (inr w.0, w.1, w.2),
            λ i. elim i.0 [ inl j ↦ absurd (clash i.1 (rw j p)) | inr j ↦ ih.1 (j, i.1, i.2) ],
          )
      side false p false q ih =
          rw (p, q) (
            λ i. let w = ih.0 i in (inr w.0, w.1, w.2),
            λ i. elim i.0 [ inl j ↦ absurd (clash (rw j q) i.2) | inr j ↦ ih.1 (j, i.1, i.2) ],
          )
      side false p true q ih =
          rw (p, q) (
            λ i. elim i [ inl j ↦ (inl j, rw j p, rw j q) | inr j ↦ let w = ih.0 j in (inr w.0, w.1, w.2) ],
            λ i. elim i.0 [ inl j ↦ inl j | inr j ↦ inr (ih.1 (j, i.1, i.2)) ],
          )

  pub within_rising : (lo hi : Datom) (u : List Datom) → Rising cmp u → Rising cmp (within cmp lo hi u)
  unfolding within
  within_rising lo hi [] r = r
  within_rising lo hi (d ∷ u) r = side (not (below cmp lo d) && below cmp hi d) refl (within_rising lo hi u r.1)
    where
      side :
          (v : Bool) → (not (below cmp lo d) && below cmp hi d) ≡ v → Rising cmp (within cmp lo hi u) →
          Rising cmp (within cmp lo hi (d ∷ u))
      side true e ih = rw e (λ x i. r.0 x ((within_in lo hi u x).0 i).0, ih)
      side false e ih = rw e ih

module _ (cmp : Datom → Datom → Ordering) (L : Preorder cmp) where
  place_rising :
      (d : Datom) (s : List Datom) → Rising cmp s → ((x : Datom) → In x s → cmp d x ≡ Ordering.eq → ⊥) → Rising cmp (place cmp d s)
  unfolding place
  place_rising d [] r a = (λ x i. absurd i, tt)
  place_rising d (y ∷ s) r a = side (is_less (cmp y d)) refl (place_rising d s r.1 (λ x i. a x (inr i)))
    where
      side : (b : Bool) → is_less (cmp y d) ≡ b → Rising cmp (place cmp d s) → Rising cmp (place cmp d (y ∷ s))
      side true e ih =
          let k : cmp y d ≡ Ordering.lt = less cmp y d e in
          rw e (λ x i. elim ((place_in cmp d s x).0 i) [ inl h ↦ rw h k | inr h ↦ r.0 x h ], ih)
      side false e ih =
          let k : cmp d y ≡ Ordering.lt = other cmp L y d e (λ q. a y (inl refl) q) in
          rw e (below_all cmp L d y s k r, r)

  pub sort_rising : (ds : List Datom) → Distinct cmp ds → Rising cmp (sort cmp ds)
  unfolding sort
  sort_rising [] w = tt
  sort_rising (d ∷ ds) w = place_rising d (sort cmp ds) (sort_rising ds w.1) (λ x i. w.0 x ((sort_in cmp ds x).0 i))

  -- the lower bound at or above the upper: nothing between
  pub within_none : (lo hi : Datom) → is_less (cmp lo hi) ≡ false → (u : List Datom) → within cmp lo hi u ≡ []
  unfolding is_less
  within_none lo hi e u = empty (within cmp lo hi u) λ x i. let w = (within_in cmp lo hi u x).0 i in out x w.1 (less cmp x hi w.2) (cmp lo x) refl
    where
      empty : (v : List Datom) → ((x : Datom) → In x v → ⊥) → v ≡ []
      empty [] n = refl
      empty (d ∷ v) n = absurd (n d (inl refl))

      out : (x : Datom) → below cmp lo x ≡ false → cmp x hi ≡ Ordering.lt → (o : Ordering) → cmp lo x ≡ o → ⊥
      out x a b Ordering.lt q = clash e (rw (L.trans lo x hi q b))
      out x a b Ordering.eq q = clash e (rw (same_below_law cmp L q b))
      out x a b Ordering.gt q = clash a (rw (turned cmp L q))

  -- rising lists of the same datoms are the same
  pub rising_once : (u v : List Datom) → Rising cmp u → Rising cmp v → ((x : Datom) → In x u ↔ In x v) → u ≡ v
  rising_once [] [] r q e = refl
  rising_once [] (y ∷ v) r q e = absurd ((e y).1 (inl refl))
  rising_once (x ∷ u) [] r q e = absurd ((e x).0 (inl refl))
  rising_once (x ∷ u) (y ∷ v) r q e =
      let z : x ≡ y = same ((e x).0 (inl refl)) ((e y).1 (inl refl)) in
      ap₂ ◌∷◌ z (rising_once u v r.1 q.1 (λ w. (λ i. past v z (r.0 w i) ((e w).0 (inr i)), λ i. past u (sym z) (q.0 w i) ((e w).1 (inr i)))))
    where
      same : In x (y ∷ v) → In y (x ∷ u) → x ≡ y
      same (inl i) j = i
      same (inr i) (inl j) = sym j
      same (inr i) (inr j) = absurd (one_way cmp L (q.0 x i) (r.0 y j))

      -- what is above one head is not the other, so it stands behind it
      past : {a b w : Datom} (s : List Datom) → a ≡ b → cmp a w ≡ Ordering.lt → In w (b ∷ s) → In w s
      past s z k (inl i) = absurd (not_self cmp L (z ∙ sym i) k)
      past s z k (inr i) = i
