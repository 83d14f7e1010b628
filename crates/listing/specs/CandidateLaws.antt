-- One level of the running minimum.
use Rattle.std.specs.Prelude.{ℕ, zero, suc, ◌+◌, ◌*◌, ◌<◌, ◌≤◌, List, [], ◌∷◌, ◌≡◌, None, Ok, Err, drop, get_or}
use Rattle.std.proofs.Common.{arith, add-one, sym, ap, ◌∙◌}
use Rattle.std.proofs.Math.Decide.{dec_le}
use Rattle.std.proofs.Math.Path.{refl}
use Rattle.store.specs.declared.PageId.{PageId}
use Rattle.store.specs.declared.Extent.{Extent}
use Rattle.store.specs.Page.{page}
use Rattle.store.specs.Size.{capacity}
use Rattle.store.specs.Cells.{cells_end}
use Rattle.datom.specs.declared.Datom.{Datom}
use Rattle.datom.specs.Datom.{datom_at, datom_of}
use Rattle.datom.specs.Laws.{datoms_from}
use Rattle.std.specs.declared.cmp.Ordering.TheVariants.{Less, Equal, Greater}
use Rattle.index.specs.Named.{is_lt, is_eq, is_gt}
use Rattle.index.specs.Order.{DatomOrd, named}
use Rattle.rules.specs.Page.{Node, node_of, level_of, count_of}
use Rattle.rules.specs.Tree.{Fetched, fine}
use Rattle.rules.specs.Store.{page_at, fetch_page}
use Rattle.rules.proofs.ReadLaws.{fetch_tells}
use Rattle.memory_store.specs.Readable.{node_at}
use Rattle.listing.specs.Levels.{node_in}
use Rattle.listing.specs.Candidate.{Picked, picked, pick_one, pick, candidate_below}

module _ (t : DatomOrd) (l : ℕ) (q : PageId) (x : Datom) (b : Picked) where
  pub one_first : b ≡ Ok None → picked l x ≡ pick_one t l q x b
  unfolding pick_one
  one_first e = rw e

  pub one_twice : (p : PageId) → b ≡ Err p → Err p ≡ pick_one t l q x b
  unfolding pick_one
  one_twice p e = rw e

  module _ (m : ℕ) (d : Datom) (e : b ≡ picked m d) where
    pub one_less : named (t.cmp d x) ≡ Less → picked m d ≡ pick_one t l q x b
    unfolding pick_one
    one_less h = rw (e, pick_one, is_lt (t.cmp d x) h)

    pub one_equal : named (t.cmp d x) ≡ Equal → Err q ≡ pick_one t l q x b
    unfolding pick_one
    one_equal h = rw (e, pick_one, is_eq (t.cmp d x) h)

    pub one_greater : named (t.cmp d x) ≡ Greater → picked l x ≡ pick_one t l q x b
    unfolding pick_one
    one_greater h = rw (e, pick_one, is_gt (t.cmp d x) h)

-- a page that was read, by its own header
pub read_node :
    (t : DatomOrd) (x : Extent) (s : List ℕ) (q : PageId) (n : Node) → fetch_page t x s q ≡ fine n →
    fetch_page t x s q ≡ fine (node_at x s q (level_of (capacity x.size) (page_at x s q)) (count_of (capacity x.size) (page_at x s q)))
read_node t x s q n e = e ∙ ap fine (sym (fetch_tells t x s q n e).1.node)

module _ (t : DatomOrd) (x : Extent) (s : List ℕ) (q : PageId) (l k : ℕ) (e : fetch_page t x s q ≡ fine (node_at x s q l k)) (m i : ℕ) (b : Picked) where
  pub pick_past : k ≤ i → b ≡ pick t m q (drop i (node_in (fetch_page t x s q)).datoms) b
  unfolding pick node_in node_of
  pick_past h = rw (e, cells_end datom_of 32 k i (page_at x s q) h)

  pub pick_at : i < k → pick_one t m q (datom_at (page_at x s q) (32 * i)) b ≡ pick t m q (drop i (node_in (fetch_page t x s q)).datoms) b
  unfolding pick node_in node_of
  pick_at h = rw (e, datoms_from k i (page_at x s q) h)

module _ (t : DatomOrd) (fetch : PageId → Fetched) (is : List ℕ) (ps : List PageId) where
  pub candidate_none : Ok None ≡ candidate_below t fetch 0 is ps
  unfolding candidate_below
  candidate_none = refl

  pub candidate_on :
      (l : ℕ) (b r : Picked) → b ≡ candidate_below t fetch l is ps → r ≡ pick t l (get_or ps l (page 0)) (drop (get_or is l 0) (node_in (fetch (get_or ps l (page 0)))).datoms) b →
      r ≡ candidate_below t fetch (l + 1) is ps
  unfolding candidate_below
  candidate_on l b r e h = rw (add-one, ← e) h

  -- an equal pair of lower levels stays the answer
  twice_stays : (q : PageId) (l : ℕ) (xs : List Datom) → Err q ≡ pick t l (get_or ps l (page 0)) xs (Err q)
  unfolding pick pick_one
  twice_stays q l [] = refl
  twice_stays q l (x ∷ xs) = refl

  pub candidate_stays : (h l : ℕ) (q : PageId) → l ≤ h → Err q ≡ candidate_below t fetch l is ps → Err q ≡ candidate_below t fetch h is ps
  unfolding candidate_below
  candidate_stays zero l q u e = let z : l ≡ 0 = omega (arith, u) in e ∙ ap (λ (n : ℕ). candidate_below t fetch n is ps) z
  candidate_stays (suc h) l q u e = elim (dec_le l h) [
    | yes v ↦ rw (← candidate_stays h l q v e) (twice_stays q h (drop (get_or is h 0) (node_in (fetch (get_or ps h (page 0)))).datoms))
    | no v ↦ let z : l ≡ suc h = omega (arith, u, v) in e ∙ ap (λ (n : ℕ). candidate_below t fetch n is ps) z
  ]
