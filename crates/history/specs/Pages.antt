-- How pages hold a tree: the middle layer's one tie to page numbers. Rests on Tree.
use Rattle.std.specs.Prelude.{ℕ, suc, true, false, List, [], ◌∷◌, ◌++◌, ◌≡◌, refl, length, get_or, replicate}
use Rattle.std.proofs.Common.{inl, inr, sym, ◌∙◌, ap}
use Rattle.store.specs.declared.PageId.{PageId}
use Rattle.store.specs.Page.{none, is_none}
use Rattle.store.specs.Laws.{apart}
use Rattle.datom.specs.declared.Datom.{Datom}
use Rattle.rules.specs.Page.{Node}
use Rattle.rules.specs.Tree.{Fetched, faulty, fine, at_level}
use Rattle.rules.specs.Lists.{In}
use Rattle.history.specs.Order.{clash}
use Rattle.history.specs.Tree.{Tree, blank, last, item, InTree, own, Real, is_blank, real_flag, Ends, Full, pending}

-- where a tree may stand: in the datoms and children of a page of level l, or as a child in such a page
pub data Place : Type 0 where
  page : ℕ → List Datom → List PageId → Place
  child : ℕ → PageId → Place

-- the pages that can be fetched hold the tree; "at level 0 every child none"
pub data Holds (f : PageId → Fetched) : Place → Tree → Type 0 where
  no_page : {l : ℕ} {c : PageId} → is_none c ≡ true → Holds f (child l c) blank
  a_page :
      {l : ℕ} {c : PageId} {n : Node} {t : Tree} → is_none c ≡ false → at_level l (f c) ≡ fine n →
      Holds f (page l n.datoms n.children) t → Holds f (child (suc l) c) t
  h_last : {l : ℕ} {c : PageId} {t : Tree} → Holds f (child l c) t → Ends l t → Holds f (page l [] (c ∷ [])) (last t)
  h_item :
      {l : ℕ} {c : PageId} {t : Tree} {ds : List Datom} {cs : List PageId} {r : Tree} (d : Datom) → Holds f (child l c) t →
      Holds f (page l ds cs) r → Holds f (page l (d ∷ ds) (c ∷ cs)) (item t d r)

-- reading is monotone: what could be fetched still can
abbrev pub Extends : (PageId → Fetched) → (PageId → Fetched) → Type 0
Extends f g = (p : PageId) (n : Node) → f p ≡ fine n → g p ≡ fine n

pub level_extends :
    {f g : PageId → Fetched} → Extends f g → (l : ℕ) (c : PageId) (n : Node) → at_level l (f c) ≡ fine n → at_level l (g c) ≡ fine n
unfolding at_level
level_extends {f} {g} x l c n e = side (f c) refl e
  where
    side : (o : Fetched) → f c ≡ o → at_level l o ≡ fine n → at_level l (g c) ≡ fine n
    side (faulty q) h k = absurd (apart (cc))
    side (fine m) h k = rw (x c m h) k

pub holds_extends : {f g : PageId → Fetched} {w : Place} {t : Tree} → Extends f g → Holds f w t → Holds g w t
holds_extends x (no_page n) = no_page n
holds_extends x (a_page {l} {c} {n} r e h) = a_page r (level_extends x l c n e) (holds_extends x h)
holds_extends x (h_last k e) = h_last (holds_extends x k) e
holds_extends x (h_item d k h) = h_item d (holds_extends x k) (holds_extends x h)

-- a page that is read at a level and holds a tree
pub record Stored (f : PageId → Fetched) (l : ℕ) (p : PageId) (t : Tree) : Type 0 where
  pub node : Node
  pub read : at_level l (f p) ≡ fine node
  pub holds : Holds f (page l node.datoms node.children) t

module _ {f : PageId → Fetched} where
  -- the datoms of the page are the tree's own, and it has one child more
  pub holds_own : {l : ℕ} {ds : List Datom} {cs : List PageId} {t : Tree} → Holds f (page l ds cs) t → own t ≡ ds
  holds_own (h_last k e) = refl
  holds_own (h_item d k h) = ap (d ∷◌) (holds_own h)

  pub holds_lengths : {l : ℕ} {ds : List Datom} {cs : List PageId} {t : Tree} → Holds f (page l ds cs) t → length cs ≡ suc (length ds)
  holds_lengths (h_last k e) = refl
  holds_lengths (h_item d k h) = ap suc (holds_lengths h)

  pub holds_real : {l : ℕ} {ds : List Datom} {cs : List PageId} {t : Tree} → Holds f (page l ds cs) t → Real t
  holds_real (h_last k e) = tt
  holds_real (h_item d k h) = tt

  -- a child is a page exactly if its id is not none
  pub child_real : {l : ℕ} {c : PageId} {t : Tree} → Holds f (child l c) t → is_none c ≡ false → Real t
  child_real (no_page n) q = absurd (clash q n)
  child_real (a_page r e h) q = holds_real h

  pub child_blank : {l : ℕ} {c : PageId} {t : Tree} → Holds f (child l c) t → is_none c ≡ true → t ≡ blank
  child_blank (no_page n) q = refl
  child_blank (a_page r e h) q = absurd (clash r q)

  pub child_flag : {l : ℕ} {c : PageId} {t : Tree} → Holds f (child l c) t → is_none c ≡ is_blank t
  child_flag (no_page n) = n
  child_flag (a_page {t} r q h) = r ∙ sym (real_flag t (holds_real h))

  pub child_page : {l : ℕ} {c : PageId} {t : Tree} → Holds f (child (suc l) c) t → is_none c ≡ false → Stored f l c t
  child_page (no_page n) q = absurd (clash q n)
  child_page (a_page {n} r e h) q = record { node = n; read = e; holds = h }

  -- the children one by one
  pub holds_child :
      {l : ℕ} {ds : List Datom} {cs : List PageId} {t : Tree} → Holds f (page l ds cs) t → (c : PageId) → In c cs →
      (k : Tree) × Holds f (child l c) k
  holds_child (h_last {t} k e) c (inl i) = (t, rw i k)
  holds_child (h_last k e) c (inr i) = absurd i
  holds_child (h_item {t} d k h) c (inl i) = (t, rw i k)
  holds_child (h_item d k h) c (inr i) = holds_child h c i

  -- "at level 0 every child none": all is in the page itself
  pub leaf_own : {ds : List Datom} {cs : List PageId} {t : Tree} (x : Datom) → Holds f (page 0 ds cs) t → InTree x t → In x (own t)
  leaf_own x (h_last (no_page n) e) i = i
  leaf_own x (h_item {c = c} {ds = ds} {cs = cs} {r = r} d (no_page n) h) (inl x13) = elim x13 [ ]
  leaf_own x (h_item d (no_page n) h) (inr (inl i)) = inl i
  leaf_own x (h_item d (no_page n) h) (inr (inr i)) = inr (leaf_own x h i)

  pub leaf_full : {ds : List Datom} {cs : List PageId} {t : Tree} → Holds f (page 0 ds cs) t → Full 0 t
  leaf_full (h_last k e) = tt
  leaf_full (h_item d k h) = (tt, leaf_full h)

  -- "above, the last child real"
  pub real_last :
      {l : ℕ} {ds : List Datom} {cs : List PageId} {t : Tree} → Holds f (page (suc l) ds cs) t → is_none (get_or cs (length ds) none) ≡ false
  real_last (h_last (no_page n) e) = absurd e
  real_last (h_last (a_page r q h) e) = r
  real_last (h_item d k h) = real_last h

pub none_is : is_none none ≡ true
unfolding is_none
none_is = refl

-- "new datoms get none"
pub holds_pending :
    {f : PageId → Fetched} {l : ℕ} {ds : List Datom} {cs : List PageId} {t : Tree} (new : List Datom) → Holds f (page l ds cs) t →
    Holds f (page l (new ++ ds) (replicate (length new) none ++ cs)) (pending new t)
holds_pending [] h = h
holds_pending (d ∷ new) h = h_item d (no_page none_is) (holds_pending new h)
