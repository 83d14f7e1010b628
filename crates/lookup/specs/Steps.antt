-- One page of a datom's path, and one datom of a batch.
use Prim.Native.Nat.{ℕ, zero, suc, ◌+◌, ◌-◌, ◌*◌, ◌<◌, ◌≤◌, Ordering}
use Rattle.std.proofs.Common.{add-one, arith, sym, ap, ◌∙◌}
use Rattle.std.specs.Prelude.{Bool, true, false, List, [], ◌∷◌, ◌≡◌, drop, Ok, Err, Option, None, Some}
use Rattle.std.proofs.Math.Path.{refl}
use Rattle.store.specs.declared.PageId.{PageId}
use Rattle.store.specs.declared.Extent.{Extent}
use Rattle.store.specs.Page.{none, is_none}
use Rattle.store.specs.Size.{capacity}
use Rattle.store.specs.Laws.{apart}
use Rattle.store.specs.Cells.{cells_end}
use Rattle.datom.specs.declared.Datom.{Datom}
use Rattle.datom.specs.Datom.{datom_at, datom_of, datoms_of}
use Rattle.datom.specs.Laws.{datoms_from}
use Rattle.index.specs.Order.{DatomOrd, is_same}
use Rattle.answer.specs.declared.Fault.{Fault}
use Rattle.answer.specs.declared.Damage.{Damage}
use Rattle.answer.specs.declared.Fault.TheVariants.{Missing}
use Rattle.answer.specs.declared.Refusal.TheVariants.{Repeated, Damaged}
use Rattle.rules.specs.Page.{children_of, node_of}
use Rattle.rules.specs.Node.{rank, head_same, next_midpoint}
use Rattle.rules.specs.Tree.{Fetched, faulty, fine, Env, at_level, fetch_at}
use Rattle.rules.specs.Lookup as rules
use Rattle.rules.specs.Lookup.{clear, found, lookup, after_look, lookup_all}
use Rattle.rules.specs.Store.{page_at, fetch_page, env_of}
use Rattle.memory_store.specs.FetchLaws.{none_missing}
use Rattle.memory_store.specs.Readable.{node_at}
use Rattle.memory_store.specs.Opened.{opened_of, at_its_level, opened_faulty}
use Rattle.lookup.specs.Look.{damage, lost_at, look_of, path_of}

-- the equal datom at an index, and past the end
module _ (cmp : Datom → Datom → Ordering) (d : Datom) (n i : ℕ) (s : List ℕ) where
  pub same_past : n ≤ i → head_same cmp d (drop i (datoms_of n s)) ≡ false
  unfolding head_same
  same_past h = rw (cells_end datom_of 32 n i s h)

  pub same_at : i < n → head_same cmp d (drop i (datoms_of n s)) ≡ is_same (cmp (datom_at s (32 * i)) d)
  unfolding head_same
  same_at h = rw (datoms_from n i s h)

-- a path that cannot go on
lost_faulty : (e : Env) (d : Datom) (l : ℕ) (p : PageId) (f : Fault) → look_of (lookup e d l p (faulty f)) ≡ lost_at p f
unfolding lookup look_of
lost_faulty e d zero p f = refl
lost_faulty e d (suc l) p f = refl

lost_at_law :
    (e : Env) (d : Datom) (l : ℕ) (p : PageId) (f : Fault) (r : Fetched) → Err f ≡ opened_of r → look_of (lookup e d l p r) ≡ lost_at p f
lost_at_law e d l p f r h = rw (opened_faulty f r h) (lost_faulty e d l p f)

-- "none" is no page
none_lost : (t : DatomOrd) (x : Extent) (s : List ℕ) (l : ℕ) → x.count ≤ none.0 → Err Missing ≡ opened_of (fetch_at (env_of t x s) l none)
unfolding opened_of fetch_at at_level env_of
none_lost t x s l h = rw (none_missing t x s h)

-- in page p, of k datoms: the index of the first datom not below d, whether that is equal, and the first real child from there on
abbrev pub seek_in : DatomOrd → Extent → List ℕ → Datom → PageId → ℕ → ℕ
seek_in t x s d p k = rank t.cmp d (datoms_of k (page_at x s p))

abbrev pub met_in : DatomOrd → Extent → List ℕ → Datom → PageId → ℕ → Bool
met_in t x s d p k = head_same t.cmp d (drop (seek_in t x s d p k) (datoms_of k (page_at x s p)))

abbrev pub next_in : DatomOrd → Extent → List ℕ → Datom → PageId → ℕ → Option PageId
next_in t x s d p k = next_midpoint (drop (seek_in t x s d p k) (children_of (capacity x.size) (suc k) (page_at x s p)))

-- the ways of a path through a page that was read
module _ (t : DatomOrd) (x : Extent) (s : List ℕ) (d : Datom) (p : PageId) (l k : ℕ) (read : fetch_page t x s p ≡ fine (node_at x s p l k)) where
  met_at : met_in t x s d p k ≡ true → (m : ℕ) → lookup (env_of t x s) d m p (fine (node_at x s p l k)) ≡ rules.met p (seek_in t x s d p k)
  unfolding lookup env_of node_of
  met_at h zero = rw h
  met_at h (suc m) = rw (lookup, h)

  pub way_met : met_in t x s d p k ≡ true → Ok true ≡ look_of (path_of t x s d l p)
  unfolding look_of
  way_met h = rw (read, met_at h l)

  module _ (other : met_in t x s d p k ≡ false) where
    absent_at : Ok false ≡ look_of (lookup (env_of t x s) d 0 p (fine (node_at x s p l k)))
    unfolding look_of lookup env_of node_of
    absent_at = rw other

    pub way_absent : l ≡ 0 → Ok false ≡ look_of (path_of t x s d l p)
    way_absent z = rw read (absent_at ∙ ap (λ (m : ℕ). look_of (lookup (env_of t x s) d m p (fine (node_at x s p l k)))) (sym z))

    -- on to a child, one level lower
    module _ (up : l ≡ 0 → ⊥) where
      down_at :
          (c : PageId) → rules.child_of (next_in t x s d p k) ≡ c → (m : ℕ) →
          lookup (env_of t x s) d (suc m) p (fine (node_at x s p l k)) ≡ lookup (env_of t x s) d m c (fetch_at (env_of t x s) m c)
      unfolding lookup env_of node_of
      down_at c next m = rw (lookup, other, next)

      down :
          (c : PageId) → rules.child_of (next_in t x s d p k) ≡ c →
          path_of t x s d l p ≡ lookup (env_of t x s) d (l - 1) c (fetch_at (env_of t x s) (l - 1) c)
      down c next =
          let e : l ≡ suc (l - 1) = omega arith in
          rw read (ap (λ (m : ℕ). lookup (env_of t x s) d m p (fine (node_at x s p l k))) e ∙ down_at c next (l - 1))

      pub way_stuck : x.count ≤ none.0 → next_in t x s d p k ≡ None → lost_at none Missing ≡ look_of (path_of t x s d l p)
      way_stuck h next = rw (down none (ap rules.child_of next)) (sym (lost_at_law _ d (l - 1) none Missing _ (none_lost t x s (l - 1) h)))

      module _ (c : PageId) (next : next_in t x s d p k ≡ Some c) where
        pub way_lost : (f : Fault) → Err f ≡ opened_of (fetch_at (env_of t x s) (l - 1) c) → lost_at c f ≡ look_of (path_of t x s d l p)
        way_lost f h = rw (down c (ap rules.child_of next)) (sym (lost_at_law _ d (l - 1) c f _ h))

        pub way_down : (n : ℕ) → fetch_page t x s c ≡ fine (node_at x s c (l - 1) n) → path_of t x s d (l - 1) c ≡ path_of t x s d l p
        way_down n h = sym (down c (ap rules.child_of next) ∙ ap (lookup (env_of t x s) d (l - 1) c) (at_its_level t x s c (l - 1) n h))

-- a next midpoint is real
pub next_real : (cs : List PageId) (c : PageId) → next_midpoint cs ≡ Some c → is_none c ≡ false
unfolding next_midpoint
next_real [] c e = absurd (apart (cc))
next_real (y ∷ ys) c e = side (is_none y) refl (next_real ys c)
  where
    side : (b : Bool) → is_none y ≡ b → (next_midpoint ys ≡ Some c → is_none c ≡ false) → is_none c ≡ false
    side true u ih = ih (rw (next_midpoint, u) at e)
    side false u ih = let k : Some y ≡ Some c = rw (next_midpoint, u) at e in let same : y ≡ c = cc in rw (← same) u

-- what follows a path
module _ (i : ℕ) (q : rules.Finding) where
  after_met : (o : rules.Look) → Ok true ≡ look_of o → after_look i o q ≡ found (Repeated i)
  unfolding after_look look_of
  after_met (rules.met p j) h = refl
  after_met (rules.absent p) h = absurd (apart (cc))
  after_met (rules.lost p f) h = absurd (apart (cc))

  after_absent : (o : rules.Look) → Ok false ≡ look_of o → after_look i o q ≡ q
  unfolding after_look look_of
  after_absent (rules.met p j) h = absurd (apart (cc))
  after_absent (rules.absent p) h = refl
  after_absent (rules.lost p f) h = absurd (apart (cc))

  after_lost : (c : PageId) (g : Fault) (o : rules.Look) → lost_at c g ≡ look_of o → after_look i o q ≡ found (Damaged c g)
  unfolding after_look look_of
  after_lost c g (rules.met p j) h = absurd (apart (cc))
  after_lost c g (rules.absent p) h = absurd (apart (cc))
  after_lost c g (rules.lost p f) h = let e : damage c g ≡ damage p f = cc in rw (ap (λ (d : Damage). d.page) e, ap (λ (d : Damage). d.fault) e)

-- one datom of a batch
module _ (e : Env) (l : ℕ) (root : PageId) (r : Fetched) (i : ℕ) where
  module _ {ds : List Datom} {d : Datom} {rest : List Datom} (at : ds ≡ d ∷ rest) where
    pub all_met : Ok true ≡ look_of (lookup e d l root r) → lookup_all e l root r i ds ≡ found (Repeated i)
    unfolding lookup_all
    all_met h = rw (at, lookup_all) (after_met i _ (lookup e d l root r) h)

    pub all_on : Ok false ≡ look_of (lookup e d l root r) → lookup_all e l root r i ds ≡ lookup_all e l root r (i + 1) rest
    unfolding lookup_all
    all_on h = rw (at, lookup_all, add-one) (after_absent i _ (lookup e d l root r) h)

    pub all_lost : (c : PageId) (f : Fault) → lost_at c f ≡ look_of (lookup e d l root r) → lookup_all e l root r i ds ≡ found (Damaged c f)
    unfolding lookup_all
    all_lost c f h = rw (at, lookup_all) (after_lost i _ c f (lookup e d l root r) h)

  pub all_end : (n : ℕ) (b : List ℕ) → n ≤ i → lookup_all e l root r i (drop i (datoms_of n b)) ≡ clear
  unfolding lookup_all
  all_end n b h = rw (cells_end datom_of 32 n i b h)
