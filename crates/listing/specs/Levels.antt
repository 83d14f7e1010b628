-- The levels of an end: each with its frame and the node that its page holds.
use Prim.Native.Nat.{ℕ, zero, suc}
use mathlib.Core.List.{List, [], ◌∷◌, map}
use Rattle.std.specs.Prelude.{◌≡◌, length, get_or}
use Rattle.std.proofs.Math.Path.{refl, ap}
use Rattle.store.specs.declared.PageId.{PageId}
use Rattle.store.specs.Page.{page}
use Rattle.rules.specs.Page.{Node}
use Rattle.rules.specs.Tree.{Fetched, faulty, fine}
use Rattle.rules.specs.Listing.{Frame, Open, frame_of, frames_from}

-- the node that was read
unfoldable pub node_in : Fetched → Node
node_in (faulty f) = record { level = 0; datoms = []; children = [] }
node_in (fine n) = n

pub fine_in : (r : Fetched) (n : Node) → r ≡ fine n → r ≡ fine (node_in r)
unfolding node_in
fine_in r n e = rw e

abbrev pub frame_at : List ℕ → List PageId → ℕ → Frame
frame_at is ps l = record { at = get_or is l 0; page = get_or ps l (page 0) }

module _ (fetch : PageId → Fetched) (is : List ℕ) (ps : List PageId) where
  abbrev pub open_at : ℕ → Open
  open_at l = record { at = get_or is l 0; page = get_or ps l (page 0); node = node_in (fetch (get_or ps l (page 0))) }

  -- the levels below one, from the top
  unfoldable pub opens_of : ℕ → List Open
  opens_of zero = []
  opens_of (suc l) = open_at l ∷ opens_of l

  pub frames_of_law : (h : ℕ) → map frame_of (opens_of h) ≡ frames_from h is ps
  unfolding frames_from opens_of
  frames_of_law zero = refl
  frames_of_law (suc h) = ap (λ (fs : List Frame). frame_at is ps h ∷ fs) (frames_of_law h)

  pub opens_count : (h : ℕ) → length (opens_of h) ≡ h
  unfolding opens_of
  opens_count zero = refl
  opens_count (suc h) = ap suc (opens_count h)
