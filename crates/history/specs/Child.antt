-- Going down: the first real child at or after the datoms that pass a test. Rests on Tree, Pages and the order's laws.
use Prim.Native.Nat.{ℕ, suc, Ordering}
use Rattle.std.specs.Prelude.{Bool, List, ◌∷◌, ◌⊎◌, ◌≡◌, drop}
use Rattle.std.proofs.Math.Bool.{true, false}
use Rattle.std.proofs.Math.Logic.{inl, inr}
use Rattle.std.proofs.Math.Path.{refl}
use Rattle.store.specs.declared.PageId.{PageId}
use Rattle.datom.specs.declared.Datom.{Datom}
use Rattle.index.proofs.Laws.{Preorder}
use Rattle.rules.specs.Node.{rank_by, next_midpoint}
use Rattle.rules.specs.Tree.{Fetched}
use Rattle.rules.specs.Lookup.{child_of}
use Rattle.rules.specs.Lists.{In}
use Rattle.history.specs.Order.{clash, Front, AtMost}
use Rattle.history.specs.Rank.{Stop}
use Rattle.history.specs.Tree.{Tree, blank, last, item, InTree, own, Real, Good}
use Rattle.history.specs.Pages.{page, Holds, no_page, a_page, h_last, h_item, Stored, holds_real}

-- a child, or what comes after it where it is none
abbrev pub or_next : Tree → Tree → Tree
or_next blank r = r
or_next (last t) r = last t
or_next (item t d s) r = item t d s

-- the first real child, and the first one at or after the datoms that pass a test
abbrev pub first_child : Tree → Tree
first_child blank = blank
first_child (last t) = t
first_child (item t d r) = or_next t (first_child r)

unfoldable pub child_by : (Datom → Bool) → Tree → Tree
child_by p blank = blank
child_by p (last t) = t
child_by p (item t d r) = elim (p d) [ true ↦ child_by p r | false ↦ or_next t (first_child r) ]

-- "the first real child at or after that index"
abbrev pub next_child : List PageId → PageId
next_child cs = child_of (next_midpoint cs)

abbrev pub child_at : (Datom → Bool) → List Datom → List PageId → PageId
child_at p ds cs = next_child (drop (rank_by p ds) cs)

or_real : (t r : Tree) → Real t → or_next t r ≡ t
or_real blank r u = absurd u
or_real (last t) r u = refl
or_real (item t d s) r u = refl

-- where the pages hold it
module _ {f : PageId → Fetched} {l : ℕ} where
  first_stored : {ds : List Datom} {cs : List PageId} {t : Tree} → Holds f (page (suc l) ds cs) t → Stored f l (next_child cs) (first_child t)
  unfolding next_midpoint
  first_stored (h_last (no_page n) e) = absurd e
  first_stored (h_last (a_page {n} r q h) e) = rw (r, next_midpoint) (record { node = n; read = q; holds = h })
  first_stored (h_item d (no_page n) k) = rw (n, next_midpoint) (first_stored k)
  first_stored (h_item {r = s} d (a_page {n} {t} r q h) k) =
      rw (r, next_midpoint, or_real t (first_child s) (holds_real h)) (record { node = n; read = q; holds = h })

  pub child_stored :
      {ds : List Datom} {cs : List PageId} {t : Tree} (p : Datom → Bool) → Holds f (page (suc l) ds cs) t →
      Stored f l (child_at p ds cs) (child_by p t)
  unfolding rank_by child_by
  child_stored p (h_last k e) = first_stored (h_last k e)
  child_stored p (h_item {c} {t} {ds} {cs} {r} d k h) = side (p d) refl (child_stored p h)
    where
      side :
          (b : Bool) → p d ≡ b → Stored f l (child_at p ds cs) (child_by p r) →
          Stored f l (child_at p (d ∷ ds) (c ∷ cs)) (child_by p (item t d r))
      side true e s = rw (e, rank_by, child_by) s
      side false e s = rw (e, rank_by, child_by) (first_stored (h_item d k h))

-- a leaf has no child
first_leaf :
    {f : PageId → Fetched} {ds : List Datom} {cs : List PageId} {t : Tree} (x : Datom) → Holds f (page 0 ds cs) t →
    InTree x (first_child t) → ⊥
first_leaf x (h_last (no_page n) e) i = i
first_leaf x (h_item d (no_page n) h) i = first_leaf x h i

pub child_leaf :
    {f : PageId → Fetched} {ds : List Datom} {cs : List PageId} {t : Tree} (p : Datom → Bool) (x : Datom) → Holds f (page 0 ds cs) t →
    InTree x (child_by p t) → ⊥
unfolding child_by
child_leaf p x (h_last (no_page n) e) i = i
child_leaf p x (h_item {r} d (no_page n) h) i = side (p d) refl (child_leaf p x h)
  where
    side : (b : Bool) → p d ≡ b → (InTree x (child_by p r) → ⊥) → ⊥
    side true e ih = ih (rw (e, child_by) at i)
    side false e ih = first_leaf x h (rw (e, child_by) at i)

-- what stands in the child stands in the tree
or_left : (x : Datom) (t r : Tree) → InTree x t → InTree x (or_next t r)
or_left x blank r i = absurd i
or_left x (last t) r i = i
or_left x (item t d s) r i = i

pub or_in : (x : Datom) (t r : Tree) → InTree x (or_next t r) → InTree x t ⊎ InTree x r
or_in x blank r i = inr i
or_in x (last t) r i = inl i
or_in x (item t d s) r i = inl i

pub first_in : (x : Datom) (t : Tree) → InTree x (first_child t) → InTree x t
first_in x blank i = i
first_in x (last t) i = i
first_in x (item t d r) i = elim (or_in x t (first_child r) i) [ inl j ↦ inl j | inr j ↦ inr (inr (first_in x r j)) ]

pub child_in : (p : Datom → Bool) (x : Datom) (t : Tree) → InTree x (child_by p t) → InTree x t
unfolding child_by
child_in p x blank i = i
child_in p x (last t) i = i
child_in p x (item t d r) i = side (p d) refl (child_in p x r)
  where
    side : (b : Bool) → p d ≡ b → (InTree x (child_by p r) → InTree x r) → InTree x (item t d r)
    side true e ih = inr (inr (ih (rw (e, child_by) at i)))
    side false e ih = first_in x (item t d r) (rw (e, child_by) at i)

module _ (cmp : Datom → Datom → Ordering) where
  or_good : (t r : Tree) → Good cmp t → Good cmp r → Good cmp (or_next t r)
  or_good blank r g k = k
  or_good (last t) r g k = g
  or_good (item t d s) r g k = g

  first_good : (t : Tree) → Good cmp t → Good cmp (first_child t)
  first_good blank g = g
  first_good (last t) g = g
  first_good (item t d r) g = or_good t (first_child r) g.1 (first_good r g.2)

  pub child_good : (p : Datom → Bool) (t : Tree) → Good cmp t → Good cmp (child_by p t)
  unfolding child_by
  child_good p blank g = g
  child_good p (last t) g = g
  child_good p (item t d r) g = side (p d) refl (child_good p r g.2)
    where
      side : (b : Bool) → p d ≡ b → Good cmp (child_by p r) → Good cmp (child_by p (item t d r))
      side true e ih = rw (e, child_by) ih
      side false e ih = rw (e, child_by) (first_good (item t d r) g)

module _ (cmp : Datom → Datom → Ordering) (L : Preorder cmp) where
  -- what is behind a datom is in the next child or above it
  behind :
      (d x : Datom) (t r : Tree) → (Real t → cmp d x ≡ Ordering.lt) → InTree x r ⊎ (cmp d x ≡ Ordering.lt) →
      InTree x (or_next t r) ⊎ (cmp d x ≡ Ordering.lt)
  behind d x blank r a b = b
  behind d x (last t) r a b = inr (a tt)
  behind d x (item t e s) r a b = inr (a tt)

  first_cover :
      (d x : Datom) (t : Tree) → Good cmp t → ((y : Datom) → In y (own t) → cmp d y ≡ Ordering.lt) → InTree x t →
      InTree x (first_child t) ⊎ (cmp d x ≡ Ordering.lt)
  first_cover d x blank g b i = absurd i
  first_cover d x (last t) g b i = inl i
  first_cover d x (item t e r) g b (inl i) = inl (or_left x t (first_child r) i)
  first_cover d x (item t e r) g b (inr (inl i)) = inr (b x (inl i))
  first_cover d x (item t e r) g b (inr (inr i)) =
      elim (behind e x t (first_child r) (λ u. g.0.right u x i) (first_cover e x r g.2 g.0.next i))
      [ inl j ↦ inl j | inr j ↦ inr (L.trans d e x (b e (inl refl)) j) ]

  -- what does not pass is in the child, or at or above the first datom of the page that does not pass
  pub cover :
      (p : Datom → Bool) → Front cmp p → (x : Datom) (t : Tree) → Good cmp t → InTree x t → p x ≡ false →
      InTree x (child_by p t) ⊎ ((y : Datom) × Stop p (own t) y × AtMost cmp y x)
  unfolding child_by rank_by
  cover p w x blank g i n = inl i
  cover p w x (last t) g i n = inl i
  cover p w x (item t d r) g i n = side (p d) refl i (λ j. cover p w x r g.2 j n)
    where
      side :
          (b : Bool) → p d ≡ b → InTree x (item t d r) →
          (InTree x r → InTree x (child_by p r) ⊎ ((y : Datom) × Stop p (own r) y × AtMost cmp y x)) →
          InTree x (child_by p (item t d r)) ⊎ ((y : Datom) × Stop p (d ∷ own r) y × AtMost cmp y x)
      side true e (inl j) ih = absurd (clash n (w x d (g.0.left x j) e))
      side true e (inr (inl j)) ih = absurd (clash n (rw j e))
      side true e (inr (inr j)) ih = rw (e, child_by, rank_by) (ih j)
      side false e (inl j) ih = rw (e, child_by, rank_by) (inl (or_left x t (first_child r) j))
      side false e (inr (inl j)) ih = rw (e, child_by, rank_by) (inr (d, refl, inl j))
      side false e (inr (inr j)) ih =
          rw (e, child_by, rank_by)
          (elim (behind d x t (first_child r) (λ u. g.0.right u x j) (first_cover d x r g.2 g.0.next j))
          [ inl q ↦ inl q | inr q ↦ inr (d, refl, inr q) ])
