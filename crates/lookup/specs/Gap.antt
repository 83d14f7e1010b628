-- The gap that a datom's path leaves: the datoms above it whose paths run through the same pages.
use Prim.Native.Nat.{ℕ, zero, suc, ◌+◌, ◌-◌, ◌*◌, ◌<◌, ◌≤◌, Ordering}
use Rattle.std.proofs.Math.Nat.{add-zero}
use native.Mathlib.Omega.{arith}
use Rattle.std.specs.Prelude.{Bool, cond, ◌≡◌, drop, Option, None, Some, Ok}
use Rattle.std.proofs.Math.Bool.{true, false}
use mathlib.Core.List.{List, [], ◌∷◌}
use Rattle.std.proofs.Common.{inl, inr, sym, ◌∙◌, length-drop, drop-drop}
use Rattle.std.proofs.Math.Path.{refl, ap}
use Rattle.store.specs.declared.PageId.{PageId}
use Rattle.store.specs.declared.Extent.{Extent}
use Rattle.store.specs.Laws.{apart, cells_length}
use Rattle.store.specs.Cells.{cells_end}
use Rattle.datom.specs.declared.Datom.{Datom}
use Rattle.datom.specs.Datom.{datom_at, datom_of, datoms_of}
use Rattle.datom.specs.Laws.{datoms_from}
use Rattle.index.specs.Order.{DatomOrd, is_less, is_same}
use Rattle.index.proofs.Laws.{Preorder}
use Rattle.answer.specs.declared.Fault.{Fault}
use Rattle.rules.specs.Page.{rising}
use Rattle.rules.specs.Node.{rank_by, rank, head_same}
use Rattle.rules.specs.Lists.{In, Rising, less, turned, rising_in, rank_most}
use Rattle.rules.specs.Tree.{fine}
use Rattle.rules.specs.Lookup.{Finding, lookup_all}
use Rattle.rules.specs.Store.{page_at, fetch_page, env_of}
use Rattle.memory_store.specs.Readable.{node_at}
use Rattle.lookup.specs.Look.{Look, lost_at, look_of, path_of}
use Rattle.lookup.specs.Steps.{seek_in, met_in, next_in, way_absent, way_down, all_on}

-- a gap, by its end: the first datom past it, or none
abbrev pub Gap : Type 0
Gap = Option Datom

-- below the end of the gap
unfoldable pub inside : DatomOrd → Gap → Datom → Bool
inside t None y = true
inside t (Some h) y = is_less (t.cmp y h)

-- up to the first of some datoms, if that is less
unfoldable pub narrowed : DatomOrd → Gap → List Datom → Gap
narrowed t g [] = g
narrowed t None (x ∷ xs) = Some x
narrowed t (Some h) (x ∷ xs) = cond (is_less (t.cmp x h)) (Some x) (Some h)

-- how many of n datoms, from one on, pass a test: one that does, one that does not, and past the end
module _ (ok : Datom → Bool) (n i : ℕ) (b : List ℕ) where
  module _ (h : i < n) where
    pub pass_on : ok (datom_at b (32 * i)) ≡ true → i + 1 + rank_by ok (drop (i + 1) (datoms_of n b)) ≡ i + rank_by ok (drop i (datoms_of n b))
    unfolding rank_by
    pass_on e = rw (datoms_from n i b h, e, rank_by) (omega arith)

    pub pass_stop : ok (datom_at b (32 * i)) ≡ false → i ≡ i + rank_by ok (drop i (datoms_of n b))
    unfolding rank_by
    pass_stop e = rw (datoms_from n i b h, e, rank_by, add-zero)

  pub pass_end : n ≤ i → i ≡ i + rank_by ok (drop i (datoms_of n b))
  unfolding rank_by
  pass_end h = rw (cells_end datom_of 32 n i b h, add-zero)

-- y is below the first of some datoms
abbrev Under : DatomOrd → Datom → List Datom → Type 0
Under t y [] = Unit {0}
Under t y (x ∷ xs) = t.cmp y x ≡ Ordering.lt

module _ (t : DatomOrd) (L : Preorder t.cmp) where
  turn : (a b : Datom) → t.cmp a b ≡ Ordering.lt → t.cmp b a ≡ Ordering.gt
  turn a b e = turned t.cmp L e

  narrow_in : (g : Gap) (xs : List Datom) (y : Datom) → inside t (narrowed t g xs) y ≡ true → (inside t g y ≡ true) × Under t y xs
  unfolding inside narrowed is_less
  narrow_in g [] y h = (h, tt)
  narrow_in None (x ∷ xs) y h = (refl, less t.cmp y x h)
  narrow_in (Some z) (x ∷ xs) y h = side (t.cmp x z) refl
    where
      side : (o : Ordering) → t.cmp x z ≡ o → (is_less (t.cmp y z) ≡ true) × (t.cmp y x ≡ Ordering.lt)
      side Ordering.lt e = let k = less t.cmp y x (rw e at h) in (rw (L.trans y x z k e), k)
      side Ordering.eq e =
          let k = less t.cmp y z (rw e at h) in
          (rw k, turned t.cmp L (L.congr x z y e ∙ turn y z k))
      side Ordering.gt e =
          let k = less t.cmp y z (rw e at h) in
          (rw k, L.trans y z x k (turned t.cmp L e))

  -- a datom above d, and below what stands next to d in a page, stands where d does, and beside no equal datom
  module _ (d y : Datom) (up : t.cmp d y ≡ Ordering.lt) where
    rank_alike : (xs : List Datom) → Under t y (drop (rank t.cmp d xs) xs) → rank t.cmp y xs ≡ rank t.cmp d xs
    unfolding rank_by is_less
    rank_alike [] u = refl
    rank_alike (x ∷ xs) u = side (t.cmp x d) refl (rank_alike xs)
      where
        zero_at : is_less (t.cmp x d) ≡ false → rank t.cmp y (x ∷ xs) ≡ rank t.cmp d (x ∷ xs)
        zero_at e = let k : t.cmp y x ≡ Ordering.lt = rw (e, rank_by) at u in rw (turn y x k, e, rank_by)

        side :
            (o : Ordering) → t.cmp x d ≡ o → (Under t y (drop (rank t.cmp d xs) xs) → rank t.cmp y xs ≡ rank t.cmp d xs) →
            rank t.cmp y (x ∷ xs) ≡ rank t.cmp d (x ∷ xs)
        side Ordering.lt e ih = rw (L.trans x d y e up, e, rank_by) (ap suc (ih (rw (e, rank_by) at u)))
        side Ordering.eq e ih = zero_at (rw e)
        side Ordering.gt e ih = zero_at (rw e)

    other_alike : (xs : List Datom) → Under t y xs → head_same t.cmp y xs ≡ false
    unfolding head_same is_same
    other_alike [] u = refl
    other_alike (x ∷ xs) u = rw (turn y x u)

-- the datoms above d in gap g have gone from page `top` of level h to page p of level l, as d has
pub record Alike (t : DatomOrd) (x : Extent) (s : List ℕ) (d : Datom) (h : ℕ) (top : PageId) (g : Gap) (l : ℕ) (p : PageId) : Type 0 where
  pub same : (y : Datom) → t.cmp d y ≡ Ordering.lt → inside t g y ≡ true → path_of t x s y l p ≡ path_of t x s y h top

-- their paths from page `top` of level h end without an equal datom
pub record Free (t : DatomOrd) (x : Extent) (s : List ℕ) (d : Datom) (h : ℕ) (top : PageId) (g : Gap) : Type 0 where
  pub absent : (y : Datom) → t.cmp d y ≡ Ordering.lt → inside t g y ≡ true → Ok false ≡ look_of (path_of t x s y h top)

-- what a look leaves for the datoms that follow
abbrev pub Leaves : DatomOrd → Extent → List ℕ → Datom → ℕ → PageId → Look → Gap → Type 0
Leaves t x s d h top look g = look ≡ Ok false → Free t x s d h top g

module _ (t : DatomOrd) (x : Extent) (s : List ℕ) (d : Datom) (h : ℕ) (top : PageId) (g : Gap) where
  pub met_leaves : Leaves t x s d h top (Ok true) g
  met_leaves e = absurd (apart (cc))

  pub lost_leaves : (p : PageId) (f : Fault) → Leaves t x s d h top (lost_at p f) g
  lost_leaves p f e = absurd (apart (cc))

-- the gap, with a page p of k datoms that the path of d has come to
abbrev pub gap_in : DatomOrd → Extent → List ℕ → Datom → Gap → PageId → ℕ → Gap
gap_in t x s d g p k = narrowed t g (drop (seek_in t x s d p k) (datoms_of k (page_at x s p)))

module _ {t : DatomOrd} (L : Preorder t.cmp) {x : Extent} {s : List ℕ} {d : Datom} {h : ℕ} {top : PageId} {g : Gap} {l : ℕ} {p : PageId}
    (A : Alike t x s d h top g l p) (k : ℕ) (read : fetch_page t x s p ≡ fine (node_at x s p l k))
  where
    module _ (y : Datom) (up : t.cmp d y ≡ Ordering.lt) (i : inside t (gap_in t x s d g p k) y ≡ true) where
      wider : inside t g y ≡ true
      wider = (narrow_in t L g _ y i).0

      under : Under t y (drop (seek_in t x s d p k) (datoms_of k (page_at x s p)))
      under = (narrow_in t L g _ y i).1

      seek_same : seek_in t x s y p k ≡ seek_in t x s d p k
      seek_same = rank_alike t L d y up (datoms_of k (page_at x s p)) under

      met_not : met_in t x s y p k ≡ false
      met_not = rw seek_same (other_alike t L d y up _ under)

    pub free_at : l ≡ 0 → Free t x s d h top (gap_in t x s d g p k)
    free_at z = record { absent = λ y up i. way_absent t x s y p l k read (met_not y up i) z ∙ ap look_of (A.same y up (wider y up i)) }

    pub alike_down :
        (l ≡ 0 → ⊥) → (c : PageId) → next_in t x s d p k ≡ Some c → (n : ℕ) → fetch_page t x s c ≡ fine (node_at x s c (l - 1) n) →
        Alike t x s d h top (gap_in t x s d g p k) (l - 1) c
    alike_down high c next n e =
        record {
          same = λ y up i. way_down t x s y p l k read (met_not y up i) high c (rw (seek_same y up i) next) n e ∙ A.same y up (wider y up i);
        }

-- so the datoms of a batch that follow d in the gap need no search
module _ {t : DatomOrd} {x : Extent} {s : List ℕ} {d : Datom} {l : ℕ} {root : PageId} {g : Gap} (F : Free t x s d l root g) where
  abbrev rest : ℕ → List Datom → Finding
  rest i ds = lookup_all (env_of t x s) l root (fetch_page t x s root) i ds

  pub all_skip :
      (i : ℕ) (ds : List Datom) → ((y : Datom) → In y ds → t.cmp d y ≡ Ordering.lt) →
      rest i ds ≡ rest (i + rank_by (inside t g) ds) (drop (rank_by (inside t g) ds) ds)
  unfolding rank_by
  all_skip i [] up = rw add-zero
  all_skip i (y ∷ ys) up = side (inside t g y) refl (all_skip (i + 1) ys (λ z j. up z (inr j)))
    where
      side :
          (b : Bool) → inside t g y ≡ b → rest (i + 1) ys ≡ rest (i + 1 + rank_by (inside t g) ys) (drop (rank_by (inside t g) ys) ys) →
          rest i (y ∷ ys) ≡ rest (i + rank_by (inside t g) (y ∷ ys)) (drop (rank_by (inside t g) (y ∷ ys)) (y ∷ ys))
      side true e ih =
          let m = rank_by (inside t g) ys in
          let n : i + 1 + m ≡ i + suc m = omega arith in
          rw (e, rank_by) (all_on (env_of t x s) l root _ i refl (F.absent y (up y (inl refl)) e) ∙ ih ∙ ap (λ (j : ℕ). rest j (drop m ys)) n)
      side false e ih = rw (e, rank_by, add-zero)

-- a batch that rises, from index i on
rising_drop : (cmp : Datom → Datom → Ordering) (i : ℕ) (ds : List Datom) → Rising cmp ds → Rising cmp (drop i ds)
rising_drop cmp zero ds r = r
rising_drop cmp (suc i) [] r = tt
rising_drop cmp (suc i) (d ∷ ds) r = rising_drop cmp i ds r.1

module _ (t : DatomOrd) (L : Preorder t.cmp) (n i : ℕ) (b : List ℕ) (rise : rising t.cmp (datoms_of n b) ≡ true) (h : i < n) where
  follows : (y : Datom) → In y (drop (i + 1) (datoms_of n b)) → t.cmp (datom_at b (32 * i)) y ≡ Ordering.lt
  follows =
      let r = rising_drop t.cmp i (datoms_of n b) (rising_in t.cmp L (datoms_of n b) rise) in
      (rw (datoms_from n i b h) at r).0

  -- the index that is looked up next
  abbrev pub next_at : Gap → ℕ
  next_at g = i + 1 + rank_by (inside t g) (drop (i + 1) (datoms_of n b))

  pub next_most : (g : Gap) → next_at g ≤ n
  next_most g =
      omega (arith, rank_most (inside t g) (drop (i + 1) (datoms_of n b)), length-drop (i + 1) (datoms_of n b), cells_length datom_of 32 n b)

  -- it finds what the datom at index i finds
  pub next_finds :
      (x : Extent) (s : List ℕ) (l : ℕ) (root : PageId) (g : Gap) → Free t x s (datom_at b (32 * i)) l root g →
      Ok false ≡ look_of (path_of t x s (datom_at b (32 * i)) l root) →
      lookup_all (env_of t x s) l root (fetch_page t x s root) (next_at g) (drop (next_at g) (datoms_of n b))
      ≡ lookup_all (env_of t x s) l root (fetch_page t x s root) i (drop i (datoms_of n b))
  next_finds x s l root g F e =
      let on = all_on (env_of t x s) l root (fetch_page t x s root) i (datoms_from n i b h) e in
      sym (on ∙ (rw drop-drop at (all_skip F (i + 1) (drop (i + 1) (datoms_of n b)) follows)))
