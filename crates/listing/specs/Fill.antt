-- The frames that are written into an end stand there.
use Rattle.std.specs.Prelude.{ℕ, zero, suc, pred, ◌<◌, ◌≤◌, List, [], ◌∷◌, ◌≡◌, refl, length, drop, get_or, set, Bool}
use Rattle.std.proofs.Common.{arith, ap, ◌∙◌, length-set, get_or-set_same, get_or-set_other}
use Rattle.std.proofs.lemmas.List.{set-get_or}
use Rattle.store.specs.declared.PageId.{PageId}
use Rattle.store.specs.declared.Extent.{Extent}
use Rattle.store.specs.Page.{page}
use Rattle.store.specs.Laws.{apart}
use Rattle.datom.specs.declared.Datom.{Datom}
use Rattle.index.specs.Order.{DatomOrd}
use Rattle.rules.specs.Node.{rank_by, next_midpoint}
use Rattle.rules.specs.Tree.{Fetched, faulty, fine, at_level}
use Rattle.rules.specs.Lookup.{child_of}
use Rattle.rules.specs.Store.{fetch_page}
use Rattle.rules.specs.Listing.{Frame, frames_from, Path, lost_at, path, longer, path_by}
use Rattle.listing.specs.declared.way.Way.{Way}
use Rattle.listing.specs.Way.{frames_of}
use Rattle.listing.specs.WayLaws.{Full}
use Rattle.listing.specs.Descent.{put_frame, fill, down_of}

kept : (l : ℕ) (w : Way) → put_frame w l (get_or w.indices l 0) (get_or w.pages l (page 0)) ≡ w
kept l w = λ i. record { indices = set-get_or w.indices l 0 i; pages = set-get_or w.pages l (page 0) i }

put_full : (w : Way) (l i : ℕ) (q : PageId) → Full w → Full (put_frame w l i q)
put_full w l i q f = (length-set w.indices l i ∙ f.0, length-set w.pages l q ∙ f.1)

-- the places above stay
pub fill_index : (fs : List Frame) (l : ℕ) (w : Way) (j : ℕ) → l < j → get_or (fill l w fs).indices j 0 ≡ get_or w.indices j 0
unfolding fill
fill_index [] l w j h = refl
fill_index (a ∷ fs) l w j h =
    fill_index fs (pred l) (put_frame w l a.at a.page) j (pred_below l j h)
    ∙ get_or-set_other w.indices l j a.at 0 (λ e. absurd (above l j h e))
  where
    pred_below : (m k : ℕ) → m < k → pred m < k
    pred_below zero k u = u
    pred_below (suc m) k u = omega (arith, u)

    above : (m k : ℕ) → m < k → k ≡ m → ⊥
    above m k u e = omega (arith, u, e)

pub fill_page : (fs : List Frame) (l : ℕ) (w : Way) (j : ℕ) → l < j → get_or (fill l w fs).pages j (page 0) ≡ get_or w.pages j (page 0)
unfolding fill
fill_page [] l w j h = refl
fill_page (a ∷ fs) l w j h =
    fill_page fs (pred l) (put_frame w l a.at a.page) j (pred_below l j h)
    ∙ get_or-set_other w.pages l j a.page (page 0) (λ e. absurd (above l j h e))
  where
    pred_below : (m k : ℕ) → m < k → pred m < k
    pred_below zero k u = u
    pred_below (suc m) k u = omega (arith, u)

    above : (m k : ℕ) → m < k → k ≡ m → ⊥
    above m k u e = omega (arith, u, e)

-- a frame that was put stands at its level, whatever is filled below
put_at :
    (l : ℕ) (w : Way) (a : Frame) → l ≤ 7 → Full w →
    record { at = get_or (put_frame w l a.at a.page).indices l 0; page = get_or (put_frame w l a.at a.page).pages l (page 0) } ≡ a
put_at l w a h f =
    let u : get_or (set w.indices l a.at) l 0 ≡ a.at = get_or-set_same w.indices l a.at 0 (omega (arith, f.0)) in
    let v : get_or (set w.pages l a.page) l (page 0) ≡ a.page = get_or-set_same w.pages l a.page (page 0) (omega (arith, f.1)) in
    λ i. record { at = u i; page = v i }

pub filled : (l : ℕ) (w : Way) (fs : List Frame) → l ≤ 7 → Full w → length fs ≡ suc l → frames_of (suc l) (fill l w fs) ≡ fs
unfolding fill frames_from
filled l w [] h f e = absurd (omega (arith, e))
filled zero w (a ∷ []) h f e = ap (λ (b : Frame). b ∷ []) (put_at 0 w a h f)
filled zero w (a ∷ b ∷ fs) h f e = absurd (omega (arith, e))
filled (suc l) w (a ∷ fs) h f e =
    let v = put_frame w (suc l) a.at a.page in
    let rest : frames_of (suc l) (fill l v fs) ≡ fs = filled l v fs (omega (arith, h)) (put_full w (suc l) a.at a.page f) (omega (arith, e)) in
    let lt : l < suc l = omega arith in
    let at : record { at = get_or (fill l v fs).indices (suc l) 0; page = get_or (fill l v fs).pages (suc l) (page 0) } ≡ a =
    rw (fill_index fs l v (suc l) lt, fill_page fs l v (suc l) lt) (put_at (suc l) w a h f) in
    λ i. at i ∷ rest i

-- frames that stand there already change nothing
pub refilled : (l : ℕ) (w : Way) → fill l w (frames_of (suc l) w) ≡ w
unfolding fill frames_from
refilled zero w = kept zero w
refilled (suc l) w = ap (λ (v : Way). fill l v (frames_of (suc l) w)) (kept (suc l) w) ∙ refilled l w

longer_by :
    (l : ℕ) (a : Frame) (o o' : Path) → o ≡ o' → (gs : List Frame) → longer a o ≡ path gs → ((hs : List Frame) → o ≡ path hs → length hs ≡ suc l) →
    length gs ≡ suc (suc l)
longer_by l a o (lost_at z y) u gs v k = let w : lost_at z y ≡ path gs = rw u at v in absurd (apart (cc))
longer_by l a o (path hs) u gs v k =
    let w : path (a ∷ hs) ≡ path gs = rw u at v in
    let y : a ∷ hs ≡ gs = cc in
    rw (← y) (ap suc (k hs u))

-- a way down has a frame for each level
pub long_by : (fetch : PageId → Fetched) (p : Datom → Bool) (l : ℕ) (q : PageId) (r : Fetched) (fs : List Frame) → path_by fetch p l q r ≡ path fs → length fs ≡ suc l
unfolding path_by
long_by fetch p zero q (faulty f) fs e = absurd (apart (cc))
long_by fetch p zero q (fine n) [] e = absurd (apart (cc))
long_by fetch p zero q (fine n) (a ∷ []) e = refl
long_by fetch p zero q (fine n) (a ∷ b ∷ fs) e = absurd (apart (cc))
long_by fetch p (suc l) q (faulty f) fs e = absurd (apart (cc))
long_by fetch p (suc l) q (fine n) fs e =
    let c = child_of (next_midpoint (drop (rank_by p n.datoms) n.children)) in
    let rest = path_by fetch p l c (at_level l (fetch c)) in
    longer_by l (record { at = rank_by p n.datoms; page = q }) rest rest refl fs e (λ gs. long_by fetch p l c (at_level l (fetch c)) gs)

pub down_long :
    (t : DatomOrd) (x : Extent) (s : List ℕ) (p : Datom → Bool) (l : ℕ) (q : PageId) (fs : List Frame) → down_of t x s p l q ≡ path fs → length fs ≡ suc l
down_long t x s p l q fs e = long_by (fetch_page t x s) p l q (at_level l (fetch_page t x s q)) fs e
