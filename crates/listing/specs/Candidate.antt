-- The running minimum, as the code keeps it: the smallest datom so far and its level. The rules' `least_of` keeps beside the datom the
-- frames that follow once it is taken, so it advances at every level that takes the lead; the code advances once, when the smallest
-- is known. That makes two recursions with one test each: `Least.least_is` says that they choose alike.
use Prim.Native.Nat.{Ordering}
use Rattle.std.specs.Prelude.{ℕ, zero, suc, List, [], ◌∷◌, ◌≡◌, Option, None, Some, Result, Ok, Err, drop, get_or}
use Rattle.std.proofs.Math.Path.{ap}
use Rattle.store.specs.declared.PageId.{PageId}
use Rattle.store.specs.Page.{page}
use Rattle.datom.specs.declared.Datom.{Datom}
use Rattle.index.specs.Order.{DatomOrd}
use Rattle.rules.specs.Tree.{Fetched}
use Rattle.listing.specs.declared.candidate.Candidate.{Candidate}
use Rattle.listing.specs.Levels.{node_in}

-- the smallest datom of some levels with its level, if there is a datom, or the page of the higher level of an equal pair
abbrev pub Picked : Type 0
Picked = Result (Option Candidate) PageId

abbrev pub picked : ℕ → Datom → Picked
picked l d = Ok (Some (record { level = l; datom = d }))

pub picked_once : (l m : ℕ) (d e : Datom) → picked l d ≡ picked m e → l ≡ m
picked_once l m d e h =
    let w : record { level = l; datom = d } ≡ record { level = m; datom = e } = cc in
    ap (λ (c : Candidate). c.level) w

-- the datom x of level l, whose page is q, against the smallest of the levels below
unfoldable pub pick_one : DatomOrd → ℕ → PageId → Datom → Picked → Picked
pick_one t l q x (Ok None) = picked l x
pick_one t l q x (Err p) = Err p
pick_one t l q x (Ok (Some b)) = elim (t.cmp b.datom x) [ Ordering.lt ↦ Ok (Some b) | Ordering.eq ↦ Err q | Ordering.gt ↦ picked l x ]

-- what is left of level l, if anything
unfoldable pub pick : DatomOrd → ℕ → PageId → List Datom → Picked → Picked
pick t l q [] b = b
pick t l q (x ∷ xs) b = pick_one t l q x b

-- the levels below l, from level 0 up
unfoldable pub candidate_below : DatomOrd → (PageId → Fetched) → ℕ → List ℕ → List PageId → Picked
candidate_below t fetch zero is ps = Ok None
candidate_below t fetch (suc l) is ps = pick t l (get_or ps l (page 0)) (drop (get_or is l 0) (node_in (fetch (get_or ps l (page 0)))).datoms) (candidate_below t fetch l is ps)
