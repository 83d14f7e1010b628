-- Merge: the tree with a batch among the datoms of its page. Rests on Tree, Pages and the rules' laws of the merge of lists.
use Prim.Native.Nat.{ℕ, Ordering}
use Rattle.std.specs.Prelude.{Bool, ◌⊎◌, ◌≡◌}
use Rattle.std.proofs.Math.Bool.{true, false}
use mathlib.Core.List.{List, [], ◌∷◌, append-nil}
use Rattle.std.proofs.Common.{inl, inr, ◌∙◌, ap}
use Rattle.std.proofs.Math.Path.{refl}
use Rattle.store.specs.declared.PageId.{PageId}
use Rattle.datom.specs.declared.Datom.{Datom}
use Rattle.index.specs.Order.{is_less}
use Rattle.index.proofs.Laws.{Preorder}
use Rattle.rules.specs.Node.{merge_datoms, merge_children, meets}
use Rattle.rules.specs.Tree.{Fetched}
use Rattle.rules.specs.Lists.{In, Rising, less, turned, below_all}
use Rattle.rules.specs.MergeLaws.{merge_out}
use Rattle.history.specs.Order.{not_both, other}
use Rattle.history.specs.Tree.{Tree, blank, last, item, InTree, own, Good, Exactly, item_in, pend_in, Apart, pending, pending_in, pending_own, alone, pending_good}
use Rattle.history.specs.Pages.{page, Holds, no_page, h_last, h_item, holds_pending, none_is}

-- a batch among the datoms of a page: behind the page's last datom, or before the first that is not below it
pub data Merged (cmp : Datom → Datom → Ordering) : Tree → List Datom → Tree → Type 0 where
  m_last : (t : Tree) (new : List Datom) → Merged cmp (last t) new (pending new (last t))
  m_done : (t : Tree) (d : Datom) (r : Tree) → Merged cmp (item t d r) [] (item t d r)
  m_old :
      {r r₁ : Tree} (t : Tree) (d x : Datom) (xs : List Datom) → is_less (cmp d x) ≡ true → Merged cmp r (x ∷ xs) r₁ →
      Merged cmp (item t d r) (x ∷ xs) (item t d r₁)
  m_new :
      {r r₁ : Tree} (t : Tree) (d x : Datom) (xs : List Datom) → is_less (cmp d x) ≡ false → Merged cmp (item t d r) xs r₁ →
      Merged cmp (item t d r) (x ∷ xs) (item blank x r₁)

-- a merged node holds such a tree
pub record MergeHolds
    (cmp : Datom → Datom → Ordering) (f : PageId → Fetched) (l : ℕ) (ds : List Datom) (cs : List PageId) (t : Tree) (new : List Datom)
    : Type 0 where
  pub tree : Tree
  pub merged : Merged cmp t new tree
  pub holds : Holds f (page l (merge_datoms cmp ds new) (merge_children cmp ds cs new)) tree

module _ (cmp : Datom → Datom → Ordering) {f : PageId → Fetched} where
  pub merge_holds :
      {l : ℕ} {ds : List Datom} {cs : List PageId} {t : Tree} → Holds f (page l ds cs) t → (new : List Datom) →
      MergeHolds cmp f l ds cs t new
  unfolding merge_datoms merge_children
  merge_holds (h_last {t} k e) new =
      record { tree = pending new (last t); merged = m_last t new; holds = rw append-nil at (holds_pending new (h_last k e)) }
  merge_holds (h_item {t} {r} d k h) [] = record { tree = item t d r; merged = m_done t d r; holds = h_item d k h }
  merge_holds {l} (h_item {c} {t} {ds} {cs} {r} d k h) (x ∷ xs) =
      side (is_less (cmp d x)) refl (merge_holds h (x ∷ xs)) (merge_holds (h_item d k h) xs)
    where
      side :
          (b : Bool) → is_less (cmp d x) ≡ b → MergeHolds cmp f l ds cs r (x ∷ xs) → MergeHolds cmp f l (d ∷ ds) (c ∷ cs) (item t d r) xs →
          MergeHolds cmp f l (d ∷ ds) (c ∷ cs) (item t d r) (x ∷ xs)
      side true e u v =
          record { tree = item t d u.tree; merged = m_old t d x xs e u.merged; holds = rw (e, merge_datoms, merge_children) (h_item d k u.holds) }
      side false e u v =
          record {
            tree = item blank x v.tree;
            merged = m_new t d x xs e v.merged;
            holds = rw (e, merge_datoms, merge_children) (h_item x (no_page none_is) v.holds);
          }

module _ {cmp : Datom → Datom → Ordering} where
  -- its own datoms are the increasing union, and so is all that it contains
  merged_own : {t t₁ : Tree} {new : List Datom} → Merged cmp t new t₁ → own t₁ ≡ merge_datoms cmp (own t) new
  unfolding merge_datoms
  merged_own (m_last t new) = pending_own new (last t) ∙ append-nil new
  merged_own (m_done t d r) = refl
  merged_own (m_old t d x xs e m) = rw (e, merge_datoms) (ap (d ∷◌) (merged_own m))
  merged_own (m_new t d x xs e m) = rw (e, merge_datoms) (ap (x ∷◌) (merged_own m))

  pub merged_in : {t t₁ : Tree} {new : List Datom} → Merged cmp t new t₁ → Exactly (λ y. InTree y t ⊎ In y new) t₁
  merged_in (m_last t new) y = pending_in new (last t) y
  merged_in (m_done t d r) y = (inl, λ i. elim i [ inl j ↦ j | inr j ↦ absurd j ])
  merged_in (m_old {r} {r₁} t d x xs e m) y = item_in t d r₁ r y (merged_in m y)
  merged_in (m_new {r₁} t d x xs e m) y = pend_in x r₁ y (merged_in m y)

module _ (cmp : Datom → Datom → Ordering) (L : Preorder cmp) where
  -- it is good
  pub merged_good : {t t₁ : Tree} {new : List Datom} → Merged cmp t new t₁ → Good cmp t → Rising cmp new → Apart cmp new t → Good cmp t₁
  merged_good (m_last t new) g r a = pending_good cmp new (last t) g r a (λ x y i j. absurd j)
  merged_good (m_done t d s) g r a = g
  merged_good (m_old {r = s} t d x xs e m) g r a =
      let k : (y : Datom) → In y (x ∷ xs) → cmp d y ≡ Ordering.lt = below_all cmp L d x xs (less cmp d x e) r in (
        record {
          left = g.0.left;
          next = λ y i. elim (merge_out cmp y (own s) (x ∷ xs) (rw (merged_own m) at i)) [ inl j ↦ g.0.next y j | inr j ↦ k y j ];
          apart = λ y i. elim ((merged_in m y).0 i) [ inl j ↦ g.0.apart y j | inr j ↦ not_both cmp (k y j) ];
          right = λ z y i. elim ((merged_in m y).0 i) [ inl j ↦ g.0.right z y j | inr j ↦ k y j ];
        },
        g.1,
        merged_good m g.2 r (λ u v i j. a u v i (inr (inr j))),
      )
  merged_good (m_new {r = s} t d x xs e m) g r a =
      let k : cmp x d ≡ Ordering.lt = other cmp L d x e (a x d (inl refl) (inr (inl refl))) in (
        alone cmp
            (λ y i. elim (merge_out cmp y (d ∷ own s) xs (rw (merged_own m) at i)) [
              | inl j ↦ elim j [ inl q ↦ rw q k | inr q ↦ L.trans x d y k (g.0.next y q) ]
              | inr j ↦ r.0 y j
            ])
            (λ y i. elim ((merged_in m y).0 i) [ inl j ↦ a x y (inl refl) j | inr j ↦ not_both cmp (r.0 y j) ]),
        tt,
        merged_good m g r.1 (λ u v i. a u v (inr i)),
      )

  -- and the merge meets no two equal datoms
  pub merge_clear : (ds new : List Datom) → ((x y : Datom) → In x new → In y ds → cmp x y ≡ Ordering.eq → ⊥) → meets cmp ds new ≡ false
  unfolding meets
  merge_clear [] new a = refl
  merge_clear (d ∷ ds) [] a = refl
  merge_clear (d ∷ ds) (x ∷ xs) a =
      side (cmp d x) refl (merge_clear ds (x ∷ xs) (λ u v i j. a u v i (inr j))) (merge_clear (d ∷ ds) xs (λ u v i j. a u v (inr i) j))
    where
      side :
          (o : Ordering) → cmp d x ≡ o → meets cmp ds (x ∷ xs) ≡ false → meets cmp (d ∷ ds) xs ≡ false → meets cmp (d ∷ ds) (x ∷ xs) ≡ false
      side Ordering.lt e u v = rw (e, meets) u
      side Ordering.eq e u v = absurd (a x d (inl refl) (inl refl) (turned cmp L e))
      side Ordering.gt e u v = rw (e, meets) v
