-- The smallest datom of the rules is the one that the code keeps, and taking it gives the cursor that the code writes.
use Prim.Native.Nat.{ℕ, zero, suc, ◌<◌, Ordering}
use Rattle.std.proofs.Common.{arith, ◌∙◌}
use Rattle.std.specs.Prelude.{true, false, ◌≡◌, None, Some, Ok, Err, eqb, length, drop, get_or}
use mathlib.Core.List.{List, [], ◌∷◌}
use Rattle.std.proofs.Math.Path.{refl, ap}
use borrow.Author.Tests.{eq-eqb, ne_eqb, le-leb}
use Rattle.store.specs.declared.PageId.{PageId}
use Rattle.store.specs.Page.{page}
use Rattle.store.specs.Laws.{apart}
use Rattle.datom.specs.declared.Datom.{Datom}
use Rattle.index.specs.Order.{DatomOrd}
use Rattle.rules.specs.Tree.{Fetched, at_level}
use Rattle.rules.specs.Listing as rules
use Rattle.rules.specs.Listing.{frames_from, opened, open_one, open_frames, Path, path, longer, after, Least, none_left, least, twice, keeping, taking, choose, least_of}
use Rattle.listing.specs.WayLaws.{frames_count}
use Rattle.listing.specs.Levels.{node_in, frame_at, open_at, opens_of}
use Rattle.listing.specs.Opening.{open_below, OpenAt, open_top, rest_open}
use Rattle.listing.specs.Candidate.{Picked, picked, picked_once, pick_one, pick, candidate_below}

module _ (fetch : PageId → Fetched) (is : List ℕ) (ps : List PageId) where
  one_opened :
      (l : ℕ) → OpenAt (fetch (get_or ps l (page 0))) l (get_or is l 0) → (os : List rules.Open) →
      open_one (frame_at is ps l) (at_level l (fetch (get_or ps l (page 0)))) (opened os) ≡ opened (open_at fetch is ps l ∷ os)
  unfolding open_one at_level node_in
  one_opened l o os = rw (o.read, eq-eqb o.node.level l o.level, le-leb (get_or is l 0) (length o.node.datoms) o.most)

  pub all_opened : (h : ℕ) → open_below fetch h is ps ≡ Ok tt → open_frames fetch (frames_from h is ps) ≡ opened (opens_of fetch is ps h)
  unfolding open_frames frames_from opens_of
  all_opened zero e = refl
  all_opened (suc h) e = rw (frames_count h is ps, all_opened h (rest_open fetch is ps h e)) (one_opened h (open_top fetch is ps h e) (opens_of fetch is ps h))

  -- the frames of the levels below l once the datom of level m is taken
  unfoldable pub taken_from : ℕ → ℕ → Path
  taken_from zero m = path []
  taken_from (suc l) m =
      elim (eqb m l) [
        | true ↦ longer (record { at = suc (get_or is l 0); page = get_or ps l (page 0) }) (after fetch (open_at fetch is ps l) (opens_of fetch is ps l))
        | false ↦ longer (frame_at is ps l) (taken_from l m)
      ]

  pub taken_here : (l : ℕ) → taken_from (suc l) l ≡ longer (record { at = suc (get_or is l 0); page = get_or ps l (page 0) }) (after fetch (open_at fetch is ps l) (opens_of fetch is ps l))
  unfolding taken_from
  taken_here l = rw (taken_from, eq-eqb l l refl)

  pub taken_above : (l m : ℕ) → m < l → taken_from (suc l) m ≡ longer (frame_at is ps l) (taken_from l m)
  unfolding taken_from
  taken_above l m h = rw (taken_from, ne_eqb m l (λ e. other e))
    where
      other : m ≡ l → ⊥
      other e = omega (arith, h, e)

  -- what the code keeps, as the rules have it
  unfoldable pub least_as : ℕ → Picked → Least
  least_as l (Ok None) = none_left
  least_as l (Err q) = twice q
  least_as l (Ok (Some b)) = least b.datom (taken_from l b.level)

  abbrev pub Under : ℕ → Picked → Type 0
  Under l b = (m : ℕ) (d : Datom) → b ≡ picked m d → m < l

-- one level of the code's minimum is one level of the rules'
module _ (t : DatomOrd) (fetch : PageId → Fetched) (is : List ℕ) (ps : List PageId) where
  module _ (l : ℕ) where
    abbrev here : PageId
    here = get_or ps l (page 0)

    kept : (m : ℕ) (d : Datom) → m < l → keeping (open_at fetch is ps l) (least d (taken_from fetch is ps l m)) ≡ least_as fetch is ps (suc l) (picked m d)
    unfolding least_as
    kept m d h = rw (taken_above fetch is ps l m h)

    took : (x : Datom) → taking fetch (open_at fetch is ps l) (opens_of fetch is ps l) x ≡ least_as fetch is ps (suc l) (picked l x)
    unfolding least_as
    took x = rw (taken_here fetch is ps l)

    chose_at :
        (x : Datom) (xs : List Datom) (m : ℕ) (d : Datom) → m < l → (o : Ordering) → t.cmp d x ≡ o →
        choose fetch t.cmp (open_at fetch is ps l) (opens_of fetch is ps l) (x ∷ xs) (least d (taken_from fetch is ps l m)) ≡ least_as fetch is ps (suc l) (pick_one t l here x (picked m d))
    unfolding choose pick_one least_as
    chose_at x xs m d h Ordering.lt e = rw (choose, pick_one, e) (kept m d h)
    chose_at x xs m d h Ordering.eq e = rw (choose, pick_one, least_as, e)
    chose_at x xs m d h Ordering.gt e = rw (choose, pick_one, e) (took x)

    chose :
        (xs : List Datom) (b : Picked) → Under fetch is ps l b →
        choose fetch t.cmp (open_at fetch is ps l) (opens_of fetch is ps l) xs (least_as fetch is ps l b) ≡ least_as fetch is ps (suc l) (pick t l here xs b)
    unfolding choose pick pick_one least_as
    chose [] (Ok None) u = refl
    chose [] (Err q) u = refl
    chose [] (Ok (Some b)) u = kept b.level b.datom (u b.level b.datom refl)
    chose (x ∷ xs) (Ok None) u = took x
    chose (x ∷ xs) (Err q) u = refl
    chose (x ∷ xs) (Ok (Some b)) u = chose_at x xs b.level b.datom (u b.level b.datom refl) (t.cmp b.datom x) refl

    one_under : (m : ℕ) (y d e : Datom) → m < l → (o : Ordering) → t.cmp d y ≡ o → (k : ℕ) → pick_one t l here y (picked m d) ≡ picked k e → k < suc l
    unfolding pick_one
    one_under m y d e h Ordering.lt o k p = let v : m ≡ k = picked_once m k d e (rw (pick_one, o) at p) in omega (arith, h, v)
    one_under m y d e h Ordering.eq o k p = let w : Err here ≡ picked k e = rw (pick_one, o) at p in absurd (apart (cc))
    one_under m y d e h Ordering.gt o k p = let v : l ≡ k = picked_once l k y e (rw (pick_one, o) at p) in omega (arith, v)

    under_on : (xs : List Datom) (b : Picked) → Under fetch is ps l b → Under fetch is ps (suc l) (pick t l here xs b)
    unfolding pick pick_one
    under_on [] b u k e p = let v : k < l = u k e p in omega (arith, v)
    under_on (x ∷ xs) (Ok None) u k e p = let v : l ≡ k = picked_once l k x e p in omega (arith, v)
    under_on (x ∷ xs) (Err q) u k e p = absurd (apart (cc))
    under_on (x ∷ xs) (Ok (Some b)) u k e p = one_under b.level x b.datom e (u b.level b.datom refl) (t.cmp b.datom x) refl k p

  pub candidate_under : (h : ℕ) → Under fetch is ps h (candidate_below t fetch h is ps)
  unfolding candidate_below
  candidate_under zero k e p = absurd (apart (cc))
  candidate_under (suc h) k e p =
      under_on h (drop (get_or is h 0) (node_in (fetch (get_or ps h (page 0)))).datoms) (candidate_below t fetch h is ps) (λ m d q. candidate_under h m d q) k e p

  pub least_is : (h : ℕ) → least_of fetch t.cmp (opens_of fetch is ps h) ≡ least_as fetch is ps h (candidate_below t fetch h is ps)
  unfolding least_of opens_of candidate_below least_as
  least_is zero = refl
  least_is (suc h) =
      ap (choose fetch t.cmp (open_at fetch is ps h) (opens_of fetch is ps h) (drop (get_or is h 0) (node_in (fetch (get_or ps h (page 0)))).datoms)) (least_is h)
      ∙ chose h (drop (get_or is h 0) (node_in (fetch (get_or ps h (page 0)))).datoms) (candidate_below t fetch h is ps) (candidate_under h)
