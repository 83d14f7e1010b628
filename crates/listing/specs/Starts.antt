-- The ways a start can end.
use Rattle.answer.specs.Answers.{has_begun}
use Rattle.std.specs.Prelude.{ℕ, suc, ◌+◌, ◌≤◌, List, [], ◌≡◌, refl, Result, Ok, Err, length}
use Rattle.std.proofs.Common.{add-one, ◌∙◌}
use Rattle.std.proofs.Math.Path.{sym}
use Rattle.store.specs.declared.PageId.{PageId}
use Rattle.store.specs.Laws.{apart}
use Rattle.answer.specs.declared.Cursor.{Cursor}
use Rattle.answer.specs.declared.Damage.{Damage}
use Rattle.answer.specs.declared.Fault.{Fault}
use Rattle.answer.specs.declared.Refusal.{Refusal}
use Rattle.answer.specs.declared.Refusal.TheVariants.{Damaged}
use Rattle.answer.specs.declared.Started.{Started}
use Rattle.rules.specs.Listing.{Frame, Path, lost_at, path, cursor_of, eight, refuse_start, join_paths}
use Rattle.listing.specs.declared.way.Way.{Way}
use Rattle.listing.specs.Way.{frames_of, way_of}
use Rattle.listing.specs.WayLaws.{Full, frames_count}
use Rattle.listing.specs.Descent.{fill, lost, down, lost_once, descent_of}
use Rattle.listing.specs.Fill.{filled}

-- a start by the cursor it begins with, or by its refusal
abbrev pub started_as : Result Cursor Refusal → Started
started_as (Ok c) = record { answer = has_begun; cursor = c }
started_as (Err r) = refuse_start r

-- a way that was lost, and one that came down
module _ (l : ℕ) (w : Way) (d : Result Way Damage) where
  pub was_lost : (q : PageId) (f : Fault) (o : Path) → d ≡ descent_of l w o → d ≡ lost q f → (es : Path) → refuse_start (Damaged q f) ≡ join_paths o es
  unfolding descent_of join_paths
  was_lost q f (lost_at z g) e h es =
      let k = lost_once z q g f (sym e ∙ h) in
      rw (k.0, k.1)
  was_lost q f (path fs) e h es = let k : down (fill l w fs) ≡ lost q f = sym e ∙ h in absurd (apart (cc))

  pub record Down (v : Way) (o : Path) : Type 0 where
    pub frames : List Frame
    pub there : o ≡ path frames
    pub stand : frames_of (suc l) v ≡ frames

  pub came_down :
      (v : Way) (o : Path) → d ≡ descent_of l w o → d ≡ down v → l ≤ 7 → Full w → ((fs : List Frame) → o ≡ path fs → length fs ≡ suc l) → Down v o
  unfolding descent_of
  came_down v (lost_at z f) e h a b k = let y : lost z f ≡ down v = sym e ∙ h in absurd (apart (cc))
  came_down v (path fs) e h a b k =
      let y : down (fill l w fs) ≡ down v = sym e ∙ h in
      let is : v ≡ fill l w fs = cc in
      record { frames = fs; there = refl; stand = rw is (filled l w fs a b (k fs refl)) }

pub empty_full : Full (way_of [])
unfolding way_of eight
empty_full = (refl, refl)

lost_second :
    (l : ℕ) (v : Way) (g : Result Way Damage) (fs : List Frame) (q : PageId) (f : Fault) (p : Path) → g ≡ descent_of l v p → g ≡ lost q f →
    refuse_start (Damaged q f) ≡ join_paths (path fs) p
unfolding descent_of join_paths
lost_second l v g fs q f (lost_at z a) e h =
    let k = lost_once z q a f (sym e ∙ h) in
    rw (k.0, k.1)
lost_second l v g fs q f (path gs) e h = let k : down (fill l v gs) ≡ lost q f = sym e ∙ h in absurd (apart (cc))

-- a lost upper way, and both down
module _ (l : ℕ) (w v : Way) (d g : Result Way Damage) (b : Way) (o u : Path) (D : Down l w d b o) where
  pub upper_lost : (q : PageId) (f : Fault) → g ≡ descent_of l v u → g ≡ lost q f → refuse_start (Damaged q f) ≡ join_paths o u
  upper_lost q f i h = rw D.there (lost_second l v g D.frames q f u i h)

  pub both_down : (e : Way) → Down l v g e u → record { answer = has_begun; cursor = cursor_of (frames_of (l + 1) b) (frames_of (l + 1) e) } ≡ join_paths o u
  unfolding join_paths
  both_down e G = rw (add-one, D.there, G.there, D.stand, G.stand)

-- a cursor from two ends, of which only the used places are kept
pub cursor_is :
    (h : ℕ) (b e v y : Way) → v ≡ way_of (frames_of h b) → y ≡ way_of (frames_of h e) →
    record {
      height = h;
      begin_indices = v.indices;
      begin_pages = v.pages;
      end_indices = y.indices;
      end_pages = y.pages;
    } ≡ cursor_of (frames_of h b) (frames_of h e)
unfolding cursor_of way_of
cursor_is h b e v y i j = rw (i, j, frames_count h b.indices b.pages)

pub full_of : (w : Way) → w ≡ way_of [] → Full w
full_of w e = rw e empty_full
