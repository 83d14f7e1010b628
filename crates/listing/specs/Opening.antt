-- Whether the begin pages of a cursor are open, and what they hold then.
use Rattle.std.specs.Prelude.{ℕ, zero, suc, ◌-◌, ◌<◌, ◌≤◌, Bool, true, false, List, ◌≡◌, refl, Result, Ok, Err, leb, eqb, get_or}
use Rattle.std.proofs.Math.Decide.{dec_le}
use Rattle.std.proofs.Common.{arith, sym, ap, ◌∙◌, eqb-true, leb-true, le-leb}
use Rattle.std.proofs.Math.Bool.{cond}
use Rattle.std.proofs.lemmas.Bool.{lt-leb}
use Rattle.std.proofs.Math.ListN.{length}
use Rattle.store.specs.declared.PageId.{PageId}
use Rattle.store.specs.declared.Extent.{Extent}
use Rattle.store.specs.Page.{page}
use Rattle.store.specs.Laws.{apart}
use Rattle.index.specs.Order.{DatomOrd}
use Rattle.answer.specs.declared.Damage.{Damage}
use Rattle.answer.specs.declared.Fault.{Fault}
use Rattle.answer.specs.declared.Fault.TheVariants.{WrongLevel, PastCount}
use Rattle.rules.specs.Page.{Node}
use Rattle.rules.specs.Tree.{Fetched, faulty, fine, at_level, fetch_at}
use Rattle.rules.specs.Store.{fetch_page, env_of}
use Rattle.rules.specs.Listing.{Frame, frames_from, Opens, not_open, opened, open_one, open_frames}
use Rattle.listing.specs.WayLaws.{frames_count}
use Rattle.memory_store.specs.Opened.{opened_of, opened_faulty}

-- a page is open with no fewer datoms than the index
unfoldable pub open_of : ℕ → Fetched → Result (Unit {0}) Fault
open_of i (faulty f) = Err f
open_of i (fine n) = cond (leb i (length n.datoms)) (Ok tt) (Err PastCount)

unfoldable pub opening_of : Opens → Result (Unit {0}) Damage
opening_of (not_open q f) = Err (record { page = q; fault = f })
opening_of (opened os) = Ok tt

pub damage_once : (q z : PageId) (f g : Fault) → Err (record { page = q; fault = f }) ≡ opening_of (not_open z g) → (q ≡ z) × (f ≡ g)
unfolding opening_of
damage_once q z f g e =
    let w : record { page = q; fault = f } ≡ record { page = z; fault = g } = cc in
    (ap (λ (d : Damage). d.page) w, ap (λ (d : Damage). d.fault) w)

-- one page, by what it is opened as at its level
module _ (t : DatomOrd) (x : Extent) (s : List ℕ) (q : PageId) (i l : ℕ) where
  pub open_lost : (f : Fault) → Err f ≡ opened_of (fetch_at (env_of t x s) l q) → Err f ≡ open_of i (at_level l (fetch_page t x s q))
  unfolding fetch_at env_of open_of
  open_lost f e = rw (opened_faulty f (at_level l (fetch_page t x s q)) e)

  module _ (k : ℕ) (e : Ok k ≡ opened_of (fetch_at (env_of t x s) l q)) where
    open_node : open_of i (at_level l (fetch_page t x s q)) ≡ cond (leb i k) (Ok tt) (Err PastCount)
    unfolding fetch_at env_of open_of opened_of
    open_node = side (at_level l (fetch_page t x s q)) e
      where
        side : (r : Fetched) → Ok k ≡ opened_of r → open_of i r ≡ cond (leb i k) (Ok tt) (Err PastCount)
        side (faulty f) u = absurd (apart (cc))
        side (fine n) u = let w : k ≡ length n.datoms = cc in rw w

    pub open_within : i ≤ k → Ok tt ≡ open_of i (at_level l (fetch_page t x s q))
    open_within h = rw (open_node, le-leb i k h)

    pub open_past : k < i → Err PastCount ≡ open_of i (at_level l (fetch_page t x s q))
    open_past h = rw (open_node, lt-leb i k h)

-- all pages below a level
abbrev pub open_below : (PageId → Fetched) → ℕ → List ℕ → List PageId → Result (Unit {0}) Damage
open_below fetch l is ps = opening_of (open_frames fetch (frames_from l is ps))

-- an index is within a page that is open, and a page that was read is shut for its index alone
open_leb : (b : Bool) → cond b (Ok (tt {0})) (Err PastCount) ≡ Ok tt → b ≡ true
open_leb true h = refl
open_leb false h = absurd (apart (cc))

shut_leb : (b : Bool) (f : Fault) → cond b (Ok (tt {0})) (Err PastCount) ≡ Err f → (b ≡ false) × (f ≡ PastCount)
shut_leb true f h = absurd (apart (cc))
shut_leb false f h = let k : f ≡ PastCount = cc in (refl, k)

open_more : (a : Frame) (r : Fetched) (os : Opens) → open_of a.at r ≡ Ok tt → opening_of (open_one a r os) ≡ opening_of os
unfolding open_of open_one opening_of
open_more a (faulty f) os h = absurd (apart (cc))
open_more a (fine n) (not_open q f) h = rw (open_leb (leb a.at (length n.datoms)) h)
open_more a (fine n) (opened os) h = rw (open_leb (leb a.at (length n.datoms)) h)

open_stops : (a : Frame) (f : Fault) (r : Fetched) (os : Opens) → open_of a.at r ≡ Err f → opening_of (open_one a r os) ≡ Err (record { page = a.page; fault = f })
unfolding open_of open_one opening_of
open_stops a f (faulty g) os h = let k : g ≡ f = cc in rw k
open_stops a f (fine n) os h = let k = shut_leb (leb a.at (length n.datoms)) f h in rw (k.0, k.1)

module _ (fetch : PageId → Fetched) (is : List ℕ) (ps : List PageId) where
  pub open_none : (l : ℕ) → l ≡ 0 → Ok tt ≡ open_below fetch l is ps
  unfolding open_frames frames_from opening_of
  open_none l z = rw z

  module _ (l : ℕ) where
    abbrev index : ℕ
    index = get_or is l 0

    abbrev place : PageId
    place = get_or ps l (page 0)

    on_at : open_of index (at_level l (fetch place)) ≡ Ok tt → open_below fetch (suc l) is ps ≡ open_below fetch l is ps
    unfolding open_frames frames_from
    on_at h = rw (frames_count l is ps) (open_more (record { at = index; page = place }) (at_level l (fetch place)) (open_frames fetch (frames_from l is ps)) h)

    stop_at : (f : Fault) → open_of index (at_level l (fetch place)) ≡ Err f → open_below fetch (suc l) is ps ≡ Err (record { page = place; fault = f })
    unfolding open_frames frames_from
    stop_at f h = rw (frames_count l is ps) (open_stops (record { at = index; page = place }) f (at_level l (fetch place)) (open_frames fetch (frames_from l is ps)) h)

  module _ (l : ℕ) (some : 0 < l) where
    up : l ≡ suc (l - 1)
    up = omega arith

    pub open_on : open_of (get_or is (l - 1) 0) (at_level (l - 1) (fetch (get_or ps (l - 1) (page 0)))) ≡ Ok tt → open_below fetch (l - 1) is ps ≡ open_below fetch l is ps
    open_on h = sym (ap (λ (m : ℕ). open_below fetch m is ps) up ∙ on_at (l - 1) h)

    pub open_bad :
        (f : Fault) → open_of (get_or is (l - 1) 0) (at_level (l - 1) (fetch (get_or ps (l - 1) (page 0)))) ≡ Err f →
        Err (record { page = get_or ps (l - 1) (page 0); fault = f }) ≡ open_below fetch l is ps
    open_bad f h = sym (ap (λ (m : ℕ). open_below fetch m is ps) up ∙ stop_at (l - 1) f h)

-- a page of an open cursor: it was read, at its level, with the index within it
pub record OpenAt (r : Fetched) (l i : ℕ) : Type 0 where
  pub node : Node
  pub read : r ≡ fine node
  pub level : node.level ≡ l
  pub most : i ≤ length node.datoms

open_tells : (r : Fetched) (l i : ℕ) → open_of i (at_level l r) ≡ Ok tt → OpenAt r l i
unfolding open_of at_level
open_tells (faulty f) l i h = absurd (apart (cc))
open_tells (fine n) l i h = side (eqb n.level l) refl
  where
    side : (b : Bool) → eqb n.level l ≡ b → OpenAt (fine n) l i
    side false u = let k : Err WrongLevel ≡ Ok tt = rw u at h in absurd (apart (cc))
    side true u = let k : leb i (length n.datoms) ≡ true = open_leb _ (rw u at h) in record { node = n; read = refl; level = eqb-true n.level l u; most = leb-true i (length n.datoms) k }

module _ (fetch : PageId → Fetched) (is : List ℕ) (ps : List PageId) where
  top_open : (h : ℕ) → open_below fetch (suc h) is ps ≡ Ok tt → open_of (get_or is h 0) (at_level h (fetch (get_or ps h (page 0)))) ≡ Ok tt
  top_open h e = side (open_of (get_or is h 0) (at_level h (fetch (get_or ps h (page 0))))) refl
    where
      side : (b : Result (Unit {0}) Fault) → open_of (get_or is h 0) (at_level h (fetch (get_or ps h (page 0)))) ≡ b → open_of (get_or is h 0) (at_level h (fetch (get_or ps h (page 0)))) ≡ Ok tt
      side (Ok v) u = u
      side (Err f) u = absurd (apart (cc (sym (stop_at fetch is ps h f u) ∙ e)))

  pub rest_open : (h : ℕ) → open_below fetch (suc h) is ps ≡ Ok tt → open_below fetch h is ps ≡ Ok tt
  rest_open h e = sym (on_at fetch is ps h (top_open h e)) ∙ e

  pub open_top : (h : ℕ) → open_below fetch (suc h) is ps ≡ Ok tt → OpenAt (fetch (get_or ps h (page 0))) h (get_or is h 0)
  open_top h e = open_tells (fetch (get_or ps h (page 0))) h (get_or is h 0) (top_open h e)

  pub open_at : (h l : ℕ) → open_below fetch h is ps ≡ Ok tt → l < h → OpenAt (fetch (get_or ps l (page 0))) l (get_or is l 0)
  open_at zero l e u = absurd (omega (arith, u))
  open_at (suc h) l e u = elim (dec_le h l) [
    | yes a ↦ let k : l ≡ h = omega (arith, a, u) in rw k (open_top h e)
    | no a ↦ open_at h l (rest_open h e) (omega (arith, a))
  ]
