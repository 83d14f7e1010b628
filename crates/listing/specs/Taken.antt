-- A step that takes the datom of a level gives the cursor that the code writes.
use Prim.Native.Nat.{ℕ, zero, suc, ◌+◌, ◌<◌, ◌≤◌}
use Rattle.std.proofs.Math.Decide.{dec_le}
use Rattle.std.proofs.Common.{le_refl, arith, ap, ◌∙◌, length-set}
use Rattle.std.proofs.Math.Numerals.{add-one}
use Rattle.std.specs.Prelude.{Bool, true, false, List, [], ◌∷◌, map, ◌≡◌, None, Result, Ok, Err, length, set}
use Rattle.std.proofs.Math.Path.{refl, sym}
use Rattle.std.proofs.lemmas.List.{length-map}
use Rattle.std.proofs.Math.ListN.{get_or}
use Rattle.std.proofs.Math.Seq.{get_or-set_same, get_or-set_other}
use Rattle.store.specs.declared.PageId.{PageId}
use Rattle.store.specs.declared.Extent.{Extent}
use Rattle.store.specs.Page.{page, none}
use Rattle.store.specs.Laws.{apart}
use Rattle.datom.specs.declared.Datom.{Datom}
use Rattle.index.specs.Order.{DatomOrd}
use Rattle.answer.specs.declared.Damage.{Damage}
use Rattle.answer.specs.declared.Fault.{Fault}
use Rattle.answer.specs.declared.Fault.TheVariants.{EqualDatoms, NothingLeft}
use Rattle.answer.specs.declared.Refusal.TheVariants.{Damaged}
use Rattle.answer.specs.declared.Cursor.{Cursor}
use Rattle.answer.specs.declared.Stepped.{Stepped}
use Rattle.rules.specs.Node.{is_midpoint}
use Rattle.rules.specs.Tree.{Fetched}
use Rattle.rules.specs.Store.{fetch_page}
use Rattle.rules.specs.Listing.{Frame, frames_from, frame_of, begin_frames, Open, Opens, not_open, opened, open_frames, Path, lost_at, path, never, after, least, moved, onward, refuse_step}
use Rattle.listing.specs.declared.way.Way.{Way}
use Rattle.listing.specs.Way.{frames_of}
use Rattle.listing.specs.WayLaws.{Full}
use Rattle.listing.specs.Levels.{node_in, fine_in, open_at, opens_of, opens_count}
use Rattle.listing.specs.Descent.{fill, lost, down, descent_of}
use Rattle.listing.specs.Fill.{fill_index, fill_page, filled, long_by}
use Rattle.listing.specs.Opening.{opening_of, damage_once, open_below, OpenAt}
use Rattle.listing.specs.Candidate.{Picked, picked, candidate_below}
use Rattle.listing.specs.Advance.{Within, begin_of, taken, after_at, advanced, yield_of}
use Rattle.listing.specs.AdvanceLaws.{yield_lost, yield_bottom}
use Rattle.listing.specs.Least.{all_opened, taken_from, taken_here, taken_above, least_as, least_is, candidate_under}

-- what an advance gives beside what the rules give for the levels below m; from m on only the index of m has changed
pub data Advances (w : Way) (m : ℕ) (a : Result Way Damage) (o : Path) : Type 0 where
  gone : (q : PageId) (f : Fault) → a ≡ lost q f → o ≡ lost_at q f → Advances w m a o
  came :
      (v : Way) → a ≡ down v → o ≡ path (frames_of m v) →
      ((j : ℕ) → m ≤ j → get_or v.indices j 0 ≡ get_or (set w.indices m (get_or w.indices m 0 + 1)) j 0) →
      ((j : ℕ) → m ≤ j → get_or v.pages j (page 0) ≡ get_or w.pages j (page 0)) → Advances w m a o

advances_down :
    (w : Way) (l : ℕ) (o : Path) → Full w → l ≤ 7 → ((fs : List Frame) → o ≡ path fs → length fs ≡ suc l) →
    Advances w (suc l) (descent_of l (taken w (suc l)) o) o
unfolding descent_of
advances_down w l (lost_at q f) full low long = gone q f refl refl
advances_down w l (path fs) full low long =
    let v = taken w (suc l) in
    let fv : Full v = (length-set w.indices (suc l) (get_or w.indices (suc l) 0 + 1) ∙ full.0, full.1) in
    came (fill l v fs) refl (ap path (sym (filled l v fs low fv (long fs refl)))) (λ j h. fill_index fs l v j (omega (arith, h))) (λ j h. fill_page fs l v j (omega (arith, h)))

-- the rules' levels below one are as many as they were
after_long : (fetch : PageId → Fetched) (o : Open) (os : List Open) (fs : List Frame) → after fetch o os ≡ path fs → length fs ≡ length os
unfolding after
after_long fetch o [] [] e = refl
after_long fetch o [] (f ∷ fs) e = absurd (apart (cc))
after_long fetch o (b ∷ bs) fs e = side (is_midpoint o.node.children o.at) refl
  where
    side : (m : Bool) → is_midpoint o.node.children o.at ≡ m → length fs ≡ suc (length bs)
    side false u =
        let k : path (map frame_of (b ∷ bs)) ≡ path fs = rw (after, u) at e in
        let v : map frame_of (b ∷ bs) ≡ fs = cc in
        rw (← v) (length-map (b ∷ bs) frame_of)
    side true u = long_by fetch never (length bs) _ _ fs (rw (after, u) at e)

module _ (t : DatomOrd) (x : Extent) (s : List ℕ) (w : Way) (full : Full w) where
  abbrev fetch : PageId → Fetched
  fetch = fetch_page t x s

  advances : (m : ℕ) → m ≤ 7 → Advances w m (advanced t x s w m) (after_at t x s w m)
  unfolding advanced after opens_of frames_from descent_of fill
  advances zero low = came (taken w zero) refl refl (λ j h. refl) (λ j h. refl)
  advances (suc l) low =
      advances_down w l (after_at t x s w (suc l)) full (omega (arith, low)) λ fs e.
      after_long fetch (open_at fetch w.indices w.pages (suc l)) (opens_of fetch w.indices w.pages (suc l)) fs e
      ∙ opens_count fetch w.indices w.pages (suc l)

  abbrev from : ℕ → ℕ → Path
  from h m = taken_from fetch w.indices w.pages h m

  lost_from : (m : ℕ) (q : PageId) (f : Fault) → after_at t x s w m ≡ lost_at q f → (h : ℕ) → m < h → from h m ≡ lost_at q f
  lost_from m q f e zero u = absurd (omega (arith, u))
  lost_from m q f e (suc l) u = elim (dec_le l m) [
    | yes a ↦ let k : l ≡ m = omega (arith, a, u) in rw (k, taken_here fetch w.indices w.pages m, e)
    | no a ↦
        let v : m < l = omega (arith, a) in
        rw (taken_above fetch w.indices w.pages l m v, lost_from m q f e l v)
  ]

  module _
      (m : ℕ) (low : m ≤ 7) (r : Way) (e : after_at t x s w m ≡ path (frames_of m r))
      (is : (j : ℕ) → m ≤ j → get_or r.indices j 0 ≡ get_or (set w.indices m (get_or w.indices m 0 + 1)) j 0)
      (ps : (j : ℕ) → m ≤ j → get_or r.pages j (page 0) ≡ get_or w.pages j (page 0)) where
    here_from : from (suc m) m ≡ path (frames_of (suc m) r)
    unfolding frames_from
    here_from =
        let u : suc (get_or w.indices m 0) ≡ get_or r.indices m 0 =
        sym (is m (le_refl m) ∙ get_or-set_same w.indices m (get_or w.indices m 0 + 1) 0 (omega (arith, full.0)) ∙ add-one (get_or w.indices m 0)) in
        let v : get_or w.pages m (page 0) ≡ get_or r.pages m (page 0) = sym (ps m (le_refl m)) in
        rw (taken_here fetch w.indices w.pages m, e) (λ i. path (record { at = u i; page = v i } ∷ frames_of m r))

    above_from : (l : ℕ) → m < l → from l m ≡ path (frames_of l r) → from (suc l) m ≡ path (frames_of (suc l) r)
    unfolding frames_from
    above_from l h k =
        let u : get_or w.indices l 0 ≡ get_or r.indices l 0 =
        sym (is l (omega (arith, h)) ∙ get_or-set_other w.indices m l (get_or w.indices m 0 + 1) 0 (λ z. other z)) in
        let v : get_or w.pages l (page 0) ≡ get_or r.pages l (page 0) = sym (ps l (omega (arith, h))) in
        rw (taken_above fetch w.indices w.pages l m h, k) (λ i. path (record { at = u i; page = v i } ∷ frames_of l r))
      where
        other : l ≡ m → ⊥
        other z = omega (arith, h, z)

    path_from : (h : ℕ) → m < h → from h m ≡ path (frames_of h r)
    path_from zero u = absurd (omega (arith, u))
    path_from (suc l) u = elim (dec_le l m) [
      | yes a ↦ let k : l ≡ m = omega (arith, a, u) in rw k here_from
      | no a ↦ let v : m < l = omega (arith, a) in above_from l v (path_from l v)
    ]

-- what a step answers, by the candidate
module _ (t : DatomOrd) (x : Extent) (s : List ℕ) (c : Cursor) (full : Full (begin_of c)) (most : c.height ≤ 8) where
  took_at :
      (m : ℕ) (d : Datom) → m < c.height →
      moved c (least d (taken_from (fetch_page t x s) c.begin_indices c.begin_pages c.height m)) ≡ yield_of c d (advanced t x s (begin_of c) m)
  unfolding moved
  took_at m d h = side (advances t x s (begin_of c) full m (omega (arith, h, most)))
    where
      side :
          Advances (begin_of c) m (advanced t x s (begin_of c) m) (after_at t x s (begin_of c) m) →
          moved c (least d (taken_from (fetch_page t x s) c.begin_indices c.begin_pages c.height m)) ≡ yield_of c d (advanced t x s (begin_of c) m)
      side (gone q f e o) = rw (lost_from t x s (begin_of c) full m q f o c.height h) (yield_lost c d _ (advanced t x s (begin_of c) m) refl q f e)
      side (came v e o is ps) =
          rw (path_from t x s (begin_of c) full m (omega (arith, h, most)) v o is ps c.height h)
          (yield_bottom c d _ (advanced t x s (begin_of c) m) refl v e)

-- the answers of a step past its checks
pub on_damaged :
    (t : DatomOrd) (x : Extent) (s : List ℕ) (c : Cursor) (q : PageId) (f : Fault) (os : Opens) → Err (record { page = q; fault = f }) ≡ opening_of os →
    refuse_step c (Damaged q f) ≡ onward t.cmp (fetch_page t x s) c os
unfolding opening_of onward
on_damaged t x s c q f (not_open z g) e = let k = damage_once q z f g e in rw (k.0, k.1)
on_damaged t x s c q f (opened os) e = absurd (apart (cc))

module _ (t : DatomOrd) (x : Extent) (s : List ℕ) (c : Cursor) (ready : open_below (fetch_page t x s) c.height c.begin_indices c.begin_pages ≡ Ok tt) where
  abbrev candidate : Picked
  candidate = candidate_below t (fetch_page t x s) c.height c.begin_indices c.begin_pages

  abbrev onwards : Stepped
  onwards = onward t.cmp (fetch_page t x s) c (open_frames (fetch_page t x s) (begin_frames c))

  on_open : onwards ≡ moved c (least_as (fetch_page t x s) c.begin_indices c.begin_pages c.height candidate)
  unfolding onward
  on_open =
      rw (all_opened (fetch_page t x s) c.begin_indices c.begin_pages c.height ready)
      (ap (moved c) (least_is t (fetch_page t x s) c.begin_indices c.begin_pages c.height))

  pub on_nothing : Ok None ≡ candidate → refuse_step c (Damaged none NothingLeft) ≡ onwards
  unfolding moved least_as
  on_nothing e = rw (on_open, ← e)

  pub on_twice : (q : PageId) → Err q ≡ candidate → refuse_step c (Damaged q EqualDatoms) ≡ onwards
  unfolding moved least_as
  on_twice q e = rw (on_open, ← e)

  pub on_under : (m : ℕ) (d : Datom) → picked m d ≡ candidate → m < c.height
  on_under m d e = candidate_under t (fetch_page t x s) c.begin_indices c.begin_pages c.height m d (sym e)

  pub on_at : Full (begin_of c) → c.height ≤ 8 → (m : ℕ) (d : Datom) → picked m d ≡ candidate → yield_of c d (advanced t x s (begin_of c) m) ≡ onwards
  unfolding least_as
  on_at full most m d e = rw (on_open, ← e) (sym (took_at t x s c full most m d (on_under m d e)))

-- a page of an open cursor is read with its index within it
pub within_of : (r : Fetched) (l i : ℕ) → OpenAt r l i → Within r i
unfolding node_in
within_of r l i o = record { read = fine_in r o.node o.read; most = rw o.read o.most }
