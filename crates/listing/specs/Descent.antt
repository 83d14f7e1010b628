-- A way down, as the code writes it into an end of a cursor.
use Prim.Native.Nat.{ℕ, zero, suc, pred, ◌+◌, ◌-◌, ◌<◌, ◌≤◌}
use Rattle.std.proofs.Common.{arith, add-one, sym, ◌∙◌, ap}
use Rattle.std.specs.Prelude.{Bool, List, [], ◌∷◌, ◌≡◌, Option, None, Some, Result, Ok, Err, drop, set}
use Rattle.std.proofs.Math.Path.{refl}
use borrow.Author.Tests.{eq-eqb}
use Rattle.store.specs.declared.PageId.{PageId}
use Rattle.store.specs.declared.Extent.{Extent}
use Rattle.store.specs.Page.{none}
use Rattle.store.specs.Size.{capacity}
use Rattle.store.specs.Laws.{apart}
use Rattle.datom.specs.declared.Datom.{Datom}
use Rattle.datom.specs.Datom.{datoms_of}
use Rattle.index.specs.Order.{DatomOrd}
use Rattle.answer.specs.declared.Damage.{Damage}
use Rattle.answer.specs.declared.Fault.{Fault}
use Rattle.answer.specs.declared.Fault.TheVariants.{Missing}
use Rattle.rules.specs.Page.{children_of, node_of}
use Rattle.rules.specs.Node.{rank_by, rank, below, next_midpoint}
use Rattle.rules.specs.Tree.{Fetched, faulty, fine, at_level, fetch_at}
use Rattle.rules.specs.Lookup.{child_of}
use Rattle.rules.specs.Store.{page_at, fetch_page, env_of}
use Rattle.rules.specs.Listing.{Frame, Path, lost_at, path, longer, path_by, never}
use Rattle.listing.specs.declared.way.Way.{Way}
use Rattle.listing.specs.declared.descent.Place.{Place}
use Rattle.memory_store.specs.FetchLaws.{none_missing}
use Rattle.memory_store.specs.Readable.{node_at}
use Rattle.memory_store.specs.Opened.{opened_of, opened_faulty}

-- the datoms that are passed by
unfoldable pub test_of : DatomOrd → Option Datom → Datom → Bool
test_of t None = never
test_of t (Some d) = below t.cmp d

none_passed : (xs : List Datom) → rank_by never xs ≡ 0
unfolding rank_by
none_passed [] = refl
none_passed (x ∷ xs) = refl

module _ (t : DatomOrd) (k : Option Datom) (xs : List Datom) where
  pub index_first : k ≡ None → 0 ≡ rank_by (test_of t k) xs
  unfolding test_of
  index_first e = rw e (sym (none_passed xs))

  pub index_bound : (d : Datom) → k ≡ Some d → rank t.cmp d xs ≡ rank_by (test_of t k) xs
  unfolding test_of
  index_bound d e = rw e

-- where a way goes on from a page: at level 0 it ends
unfoldable pub next_from : ℕ → ℕ → List PageId → (Option PageId)
next_from zero i cs = None
next_from (suc l) i cs = next_midpoint (drop i cs)

pub next_bottom : (l i : ℕ) (cs : List PageId) → l ≡ 0 → None ≡ next_from l i cs
unfolding next_from
next_bottom l i cs z = rw z

pub next_up : (l i : ℕ) (cs : List PageId) → (l ≡ 0 → ⊥) → next_midpoint (drop i cs) ≡ next_from l i cs
unfolding next_from
next_up zero i cs up = absurd (up refl)
next_up (suc l) i cs up = refl

abbrev pub placed : ℕ → (Option PageId) → Result Place Fault
placed i c = Ok (record { index = i; next = c })

same_place : (i j : ℕ) (c d : (Option PageId)) → placed i c ≡ placed j d → (i ≡ j) × (c ≡ d)
same_place i j c d e =
    let w : record { index = i; next = c } ≡ record { index = j; next = d } = cc in
    (ap (λ (v : Place). v.index) w, ap (λ (v : Place). v.next) w)

-- what one page gives
unfoldable pub placed_of : (Datom → Bool) → ℕ → Fetched → Result Place Fault
placed_of p l (faulty f) = Err f
placed_of p l (fine n) = placed (rank_by p n.datoms) (next_from l (rank_by p n.datoms) n.children)

module _ (t : DatomOrd) (x : Extent) (s : List ℕ) (q : PageId) (p : Datom → Bool) (l : ℕ) where
  pub place_lost : (f : Fault) → Err f ≡ opened_of (fetch_at (env_of t x s) l q) → Err f ≡ placed_of p l (at_level l (fetch_page t x s q))
  unfolding fetch_at env_of placed_of
  place_lost f e = rw (opened_faulty f (at_level l (fetch_page t x s q)) e)

  pub place_at :
      (k : ℕ) → fetch_page t x s q ≡ fine (node_at x s q l k) →
      (b : List ℕ) (c i : ℕ) (n : (Option PageId)) → b ≡ page_at x s q → c ≡ capacity x.size → i ≡ rank_by p (datoms_of k b) →
      n ≡ next_from l i (children_of c (suc k) b) → placed i n ≡ placed_of p l (at_level l (fetch_page t x s q))
  unfolding placed_of at_level node_of
  place_at k e b c i n u v y z = rw (e, eq-eqb l l refl, z, y, u, v)

-- a frame at its level, and all frames of a way from a level down
abbrev pub put_frame : Way → ℕ → ℕ → PageId → Way
put_frame w l i q = record { indices = set w.indices l i; pages = set w.pages l q }

unfoldable pub fill : ℕ → Way → List Frame → Way
fill l w [] = w
fill l w (a ∷ fs) = fill (pred l) (put_frame w l a.at a.page) fs

abbrev pub lost : PageId → Fault → Result Way Damage
lost q f = Err (record { page = q; fault = f })

abbrev pub down : Way → Result Way Damage
down w = Ok w

pub lost_once : (q z : PageId) (f g : Fault) → lost q f ≡ lost z g → (q ≡ z) × (f ≡ g)
lost_once q z f g e =
    let w : record { page = q; fault = f } ≡ record { page = z; fault = g } = cc in
    (ap (λ (d : Damage). d.page) w, ap (λ (d : Damage). d.fault) w)

unfoldable pub descent_of : ℕ → Way → Path → Result Way Damage
descent_of l w (lost_at q f) = lost q f
descent_of l w (path fs) = down (fill l w fs)

-- the way down from page q, which is to be of level l
abbrev pub down_of : DatomOrd → Extent → List ℕ → (Datom → Bool) → ℕ → PageId → Path
down_of t x s p l q = path_by (fetch_page t x s) p l q (at_level l (fetch_page t x s q))

-- the first frame goes to its place, the others to the places below
onward : (l : ℕ) (w : Way) (a : Frame) (p : Path) → descent_of (suc l) w (longer a p) ≡ descent_of l (put_frame w (suc l) a.at a.page) p
unfolding descent_of fill
onward l w a (lost_at q f) = refl
onward l w a (path fs) = refl

module _ (fetch : PageId → Fetched) (p : Datom → Bool) (w : Way) (q : PageId) where
  -- a page that cannot be read
  lost_page : (l : ℕ) (f : Fault) (r : Fetched) → Err f ≡ placed_of p l r → lost q f ≡ descent_of l w (path_by fetch p l q r)
  unfolding placed_of descent_of path_by
  lost_page zero f (faulty g) h = let k : f ≡ g = cc in rw k
  lost_page (suc l) f (faulty g) h = let k : f ≡ g = cc in rw k
  lost_page l f (fine n) h = absurd (apart (cc))

  -- level 0
  last_page :
      (i : ℕ) (c : (Option PageId)) (r : Fetched) → placed i c ≡ placed_of p 0 r → down (put_frame w 0 i q) ≡ descent_of 0 w (path_by fetch p 0 q r)
  unfolding placed_of descent_of path_by fill
  last_page i c (faulty f) h = absurd (apart (cc))
  last_page i c (fine n) h = rw (same_place i (rank_by p n.datoms) c (next_from 0 (rank_by p n.datoms) n.children) h).0

  -- a page above level 0
  upper_page :
      (l i : ℕ) (c : (Option PageId)) (r : Fetched) → placed i c ≡ placed_of p (suc l) r →
      descent_of (suc l) w (path_by fetch p (suc l) q r) ≡ descent_of l (put_frame w (suc l) i q) (path_by fetch p l (child_of c) (at_level l (fetch (child_of c))))
  unfolding placed_of path_by next_from
  upper_page l i c (faulty f) h = absurd (apart (cc))
  upper_page l i c (fine n) h =
      let k = same_place i (rank_by p n.datoms) c (next_midpoint (drop (rank_by p n.datoms) n.children)) h in
      rw (k.0, k.1) (onward l w (record { at = rank_by p n.datoms; page = q }) _)

suc_sub_one : (m : ℕ) → suc m - 1 ≡ m
suc_sub_one m = omega arith

-- a way that has no child to go on to is lost at page none, which is missing
pub none_down : (t : DatomOrd) (x : Extent) (s : List ℕ) (p : Datom → Bool) (l : ℕ) (w : Way) → x.count ≤ none.0 → lost none Missing ≡ descent_of l w (down_of t x s p l none)
unfolding at_level path_by descent_of
none_down t x s p zero w h = rw (none_missing t x s h)
none_down t x s p (suc l) w h = rw (none_missing t x s h)

-- the ways on from a page of the store
module _ (t : DatomOrd) (x : Extent) (s : List ℕ) (p : Datom → Bool) (l : ℕ) (w : Way) (q : PageId) where
  pub down_lost : (f : Fault) → Err f ≡ placed_of p l (at_level l (fetch_page t x s q)) → lost q f ≡ descent_of l w (down_of t x s p l q)
  down_lost f h = lost_page (fetch_page t x s) p w q l f (at_level l (fetch_page t x s q)) h

  module _ (i : ℕ) (c : (Option PageId)) (at : placed i c ≡ placed_of p l (at_level l (fetch_page t x s q))) where
    pub down_ends : l ≡ 0 → down (put_frame w l i q) ≡ descent_of l w (down_of t x s p l q)
    down_ends z = ends l z at
      where
        ends : (m : ℕ) → m ≡ 0 → placed i c ≡ placed_of p m (at_level m (fetch_page t x s q)) → down (put_frame w m i q) ≡ descent_of m w (down_of t x s p m q)
        ends zero e h = last_page (fetch_page t x s) p w q i c (at_level 0 (fetch_page t x s q)) h
        ends (suc m) e h = absurd (omega (arith, e))

    module _ (up : l ≡ 0 → ⊥) where
      on_to : descent_of (l - 1) (put_frame w l i q) (down_of t x s p (l - 1) (child_of c)) ≡ descent_of l w (down_of t x s p l q)
      on_to = on l up at
        where
          on :
              (m : ℕ) → (m ≡ 0 → ⊥) → placed i c ≡ placed_of p m (at_level m (fetch_page t x s q)) →
              descent_of (m - 1) (put_frame w m i q) (down_of t x s p (m - 1) (child_of c)) ≡ descent_of m w (down_of t x s p m q)
          on zero e h = absurd (e refl)
          on (suc m) e h = rw (suc_sub_one m) (sym (upper_page (fetch_page t x s) p w q m i c (at_level (suc m) (fetch_page t x s q)) h))

      pub down_on : (d : PageId) → c ≡ Some d → descent_of (l - 1) (put_frame w l i q) (down_of t x s p (l - 1) d) ≡ descent_of l w (down_of t x s p l q)
      down_on d e = rw (ap child_of e) at on_to

      pub down_stuck : x.count ≤ none.0 → c ≡ None → lost none Missing ≡ descent_of l w (down_of t x s p l q)
      down_stuck h e = none_down t x s p (l - 1) (put_frame w l i q) h ∙ (rw (ap child_of e) at on_to)

-- what is left of a way with n levels to go, the next of them at page q
unfoldable pub left_of : DatomOrd → Extent → List ℕ → (Datom → Bool) → ℕ → Way → PageId → Result Way Damage
left_of t x s p zero w q = down w
left_of t x s p (suc l) w q = descent_of l w (down_of t x s p l q)

pub left_all : (t : DatomOrd) (x : Extent) (s : List ℕ) (p : Datom → Bool) (l : ℕ) (w : Way) (q : PageId) → left_of t x s p (l + 1) w q ≡ descent_of l w (down_of t x s p l q)
unfolding left_of
left_all t x s p l w q = rw add-one

pub left_none : (t : DatomOrd) (x : Extent) (s : List ℕ) (p : Datom → Bool) (n : ℕ) (w : Way) (q : PageId) → n ≡ 0 → down w ≡ left_of t x s p n w q
unfolding left_of
left_none t x s p n w q e = rw e

-- one level of it
pub left_here :
    (t : DatomOrd) (x : Extent) (s : List ℕ) (p : Datom → Bool) (n : ℕ) (w : Way) (q : PageId) → 0 < n →
    descent_of (n - 1) w (down_of t x s p (n - 1) q) ≡ left_of t x s p n w q
left_here t x s p n w q some =
    let e : n ≡ n - 1 + 1 = omega (arith, some) in
    sym (ap (λ (m : ℕ). left_of t x s p m w q) e ∙ left_all t x s p (n - 1) w q)

module _ (t : DatomOrd) (x : Extent) (s : List ℕ) (p : Datom → Bool) (n : ℕ) (w : Way) (q : PageId) (some : 0 < n) where
  pub left_lost : (f : Fault) → Err f ≡ placed_of p (n - 1) (at_level (n - 1) (fetch_page t x s q)) → lost q f ≡ left_of t x s p n w q
  left_lost f h = down_lost t x s p (n - 1) w q f h ∙ left_here t x s p n w q some

  module _ (i : ℕ) (c : (Option PageId)) (at : placed i c ≡ placed_of p (n - 1) (at_level (n - 1) (fetch_page t x s q))) where
    -- the last level leaves nothing
    pub left_last : (d : PageId) → n - 1 ≡ 0 → left_of t x s p (n - 1) (put_frame w (n - 1) i q) d ≡ left_of t x s p n w q
    left_last d z = sym (left_none t x s p (n - 1) (put_frame w (n - 1) i q) d z) ∙ down_ends t x s p (n - 1) w q i c at z ∙ left_here t x s p n w q some

    module _ (up : n - 1 ≡ 0 → ⊥) where
      pub left_on : (d : PageId) → c ≡ Some d → left_of t x s p (n - 1) (put_frame w (n - 1) i q) d ≡ left_of t x s p n w q
      left_on d e =
          let more : 0 < n - 1 = omega (arith, up) in
          sym (left_here t x s p (n - 1) (put_frame w (n - 1) i q) d more) ∙ down_on t x s p (n - 1) w q i c at up d e ∙ left_here t x s p n w q some

      pub left_stuck : x.count ≤ none.0 → c ≡ None → lost none Missing ≡ left_of t x s p n w q
      left_stuck h e = down_stuck t x s p (n - 1) w q i c at up h e ∙ left_here t x s p n w q some
