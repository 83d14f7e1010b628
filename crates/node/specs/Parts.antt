-- The parts of a split, one after the other: how many children each takes, where it stands in the area, and the midpoint after it.
use Prim.Native.Nat.{ℕ, zero, suc, pred, ◌+◌, ◌-◌, ◌*◌, ◌/◌, ◌%◌, ◌^◌, ◌≤◌, ◌<◌}
use Rattle.std.proofs.Common.{mul-pos, add-one, sym, ap, ◌∙◌}
use native.Mathlib.Omega.{arith}
use mathlib.Core.List.{List, [], ◌∷◌, ◌++◌}
use Rattle.std.specs.Prelude.{◌≡◌, refl, length, drop}
use Rattle.std.proofs.Math.ListN.{take}
use Rattle.std.proofs.Math.Seq.{drop-drop}
use Rattle.store.specs.declared.PageId.{PageId}
use Rattle.store.specs.Words.{cells, patch}
use Rattle.store.specs.Page.{page_bytes}
use Rattle.store.specs.Laws.{cells_length}
use Rattle.store.specs.Cells.{patch_length, cut}
use Rattle.datom.specs.declared.Datom.{Datom}
use Rattle.datom.specs.Datom.{datom_at, datom_of, datoms_of}
use Rattle.datom.specs.Laws.{datoms_from}
use Rattle.rules.specs.Page.{node_of, children_of, node_is}
use Rattle.rules.specs.Node.{share, parts, between, pages_for, split_parts, split_up, part_of}
use Rattle.rules.proofs.SplitLaws.{share_some, share_sum}
use Rattle.node.specs.Stores.{midpoint_front, midpoint_rest, midpoint_children, child_front, child_rest, child_datoms}

-- "The first r pages take q+1 children, the others q", by the number p of the page
one_more : (q r : ℕ) → 0 < r → share q r ≡ q + 1
unfolding share
one_more q zero h = absurd (omega arith)
one_more q (suc r) h = omega arith

no_more : (q r : ℕ) → r ≡ 0 → share q r ≡ q
unfolding share
no_more q zero h = refl
no_more q (suc r) h = absurd (omega arith)

pub share_more : (q r p : ℕ) → p < r → q + 1 ≡ share q (r - p)
share_more q r p h = sym (one_more q (r - p) (omega arith))

pub share_even : (q r p : ℕ) → r ≤ p → q ≡ share q (r - p)
share_even q r p h = sym (no_more q (r - p) (omega arith))

pub share_next : (r p : ℕ) → pred (r - p) ≡ r - (p + 1)
share_next r p = omega arith

-- i children are in parts; a + 1 parts of q children are to come, and r of them take one more
module _ (a q r i n : ℕ) (total : i + (suc a * q + r) ≡ suc n) where
  pub share_left : i + share q r + (a * q + pred r) ≡ suc n
  share_left = omega (arith, share_sum a q r)

  pub share_fits : i + share q r ≤ suc n
  share_fits = omega (arith, share_left)

  -- where another part follows, a datom is left for the place between the two
  pub share_inner : 0 < q → 0 < a → i + share q r ≤ n
  share_inner h k = omega (arith, share_left, mul-pos {m = a} {n = q} k h)

-- A split in place: the midpoints and page ids of the p parts that are written stand at the front of the area, and from index i on the
-- node of n datoms is still that of ds and cs.
pub record Splitting (m n p i : ℕ) (s : List ℕ) (ups : List Datom) (ids : List PageId) (ds : List Datom) (cs : List PageId) : Type 0 where
  pub few : p ≤ i
  pub midpoints : datoms_of p s ≡ ups
  pub pages : children_of m p s ≡ ids
  pub datoms : drop i (datoms_of n s) ≡ drop i ds
  pub children : drop i (children_of m (suc n) s) ≡ drop i cs

further : {A : Type 0} (i k : ℕ) (xs ys : List A) → drop i xs ≡ drop i ys → drop (i + k) xs ≡ drop (i + k) ys
further i k xs ys e = sym (drop-drop k i xs) ∙ ap (drop k) e ∙ drop-drop k i ys

module _
    {m n p i : ℕ}
    {s : List ℕ}
    {ups : List Datom}
    {ids : List PageId}
    {ds : List Datom}
    {cs : List PageId}
    (g : Splitting m n p i s ups ids ds cs)
  where
    -- the next part and the midpoint behind it, as the rules have them, and as they stand in the area
    module _ (q r : ℕ) (some : 0 < q) where
      abbrev k : ℕ
      k = share q r

      pub parts_step :
          (l a : ℕ) →
          parts l (suc a) q r (drop i ds) (drop i cs) ≡ part_of i (k - 1) (node_of m l n s) ∷ parts l a q (pred r) (drop (i + k) ds) (drop (i + k) cs)
      unfolding parts part_of node_of
      parts_step l a =
          let e : suc (k - 1) ≡ k = omega (arith, share_some q r some) in
          let f : pred k ≡ k - 1 = omega arith in
          rw (g.datoms, g.children, e, f, drop-drop, drop-drop)

      pub between_step :
          (a : ℕ) → i + k ≤ n → between (suc a) q r (drop i ds) ≡ datom_at s (32 * (i + k - 1)) ∷ between a q (pred r) (drop (i + k) ds)
      unfolding between
      between_step a h =
          let f : i + pred k ≡ i + k - 1 = omega (arith, share_some q r some) in
          let e : take 1 (drop (pred k) (drop i ds)) ≡ datom_at s (32 * (i + k - 1)) ∷ [] =
          rw (← g.datoms, drop-drop, f, datoms_from n (i + k - 1) s (omega (arith, share_some q r some))) in
          rw (e, drop-drop)

    module _ (room : 40 * m + 8 ≤ length s) (within : n ≤ m) where
      -- a part of k children is written as page `id`, and another follows: the datom between the two goes up
      pub splitting_on :
          (k : ℕ) (id : PageId) → 0 < k → i + k ≤ n → id.0 < 2 ^ 64 →
          Splitting m n (p + 1) (i + k)
          (patch (patch s (32 * p) (take 32 (drop (32 * (i + k - 1)) s))) (32 * m + 8 * p) (page_bytes id))
          (ups ++ (datom_at s (32 * (i + k - 1)) ∷ [])) (ids ++ (id ∷ [])) ds cs
      splitting_on k id some h small =
          let x = i + k - 1 in
          let t = patch s (32 * p) (take 32 (drop (32 * x) s)) in
          let y : p ≤ x = omega (arith, g.few) in
          let z : x < m = omega arith in
          let e : length t ≡ length s = patch_length s (32 * p) (take 32 (drop (32 * x) s)) (omega (arith, cut 32 (32 * x) s (omega arith))) in
          let d = child_datoms m p t (omega arith) id (omega arith) in
          let c = midpoint_children m p s room x y z in
          record {
            few = omega (arith, g.few);
            midpoints = d (p + 1) (omega arith) ∙ midpoint_front m p s room x y z ∙ rw g.midpoints;
            pages = child_front m p t (omega arith) id (omega arith) small ∙ rw (c p, g.pages);
            datoms = rw (d n within) (midpoint_rest m p s room x y z n (i + k) (omega arith) h within ∙ further i k _ _ g.datoms);
            children =
                child_rest m p t (omega arith) id (omega arith) (suc n) (i + k) (omega arith) (omega arith) (omega arith)
                ∙ rw (c (suc n)) (further i k _ _ g.children);
          }

      -- the last part is: what stands in the area then is the node that goes up
      pub splitting_end :
          (l : ℕ) (id : PageId) → p ≤ m → id.0 < 2 ^ 64 →
          node_of m l p (patch s (32 * m + 8 * p) (page_bytes id)) ≡ record { level = l; datoms = ups; children = ids ++ (id ∷ []) }
      splitting_end l id h small =
          rw (
            node_is,
            child_datoms m p s room id h p h,
            ← add-one p,
            child_front m p s room id h small,
            g.midpoints,
            g.pages,
          )

-- how a split begins
pub splitting_start : (m n : ℕ) (s : List ℕ) → Splitting m n 0 0 s [] [] (datoms_of n s) (children_of m (suc n) s)
unfolding cells
splitting_start m n s = record { few = omega arith; midpoints = refl; pages = refl; datoms = refl; children = refl }

module _ (cap m l n : ℕ) (s : List ℕ) where
  pub parts_start :
      split_parts cap (node_of m l n s)
      ≡ parts l (pages_for cap n) (suc n / pages_for cap n) (suc n % pages_for cap n) (datoms_of n s) (children_of m (suc n) s)
  unfolding split_parts node_of
  parts_start = rw (cells_length datom_of 32 n s)

  pub between_start :
      split_up cap (node_of m l n s) ≡ between (pred (pages_for cap n)) (suc n / pages_for cap n) (suc n % pages_for cap n) (datoms_of n s)
  unfolding split_up node_of
  between_start = rw (cells_length datom_of 32 n s)
