-- A node in an area while something goes on behind it: it stays as it is, and a span that is sent behind it arrives.
use Rattle.std.specs.Prelude.{ℕ, suc, ◌+◌, ◌-◌, ◌*◌, ◌≤◌, List, [], ◌++◌, ◌≡◌, length}
use Rattle.std.proofs.Common.{arith, append-nil, sym, ap, ◌∙◌, length-drop, drop_of_length-le, length-take-le, take_all, take_at, take-take, drop_at}
use Rattle.std.proofs.Math.ListN.{take, drop}
use Rattle.store.specs.Words.{patch}
use Rattle.store.specs.Page.{page_of}
use Rattle.store.specs.Cells.{drop_patch, drop_take_le, take_patch, cells_front, cut, cells_take, cells_drop}
use Rattle.datom.specs.Datom.{datom_of, datoms_of}
use Rattle.rules.specs.Page.{node_of}
use Rattle.node.specs.Moves.{move_of}

module _ (m l n : ℕ) (few : n ≤ m) where
  -- the area is all that the node is read from
  pub node_front : (s : List ℕ) → node_of m l n (take (40 * m + 8) s) ≡ node_of m l n s
  unfolding node_of
  node_front s =
      let e : drop (32 * m) (take (40 * m + 8) s) ≡ take (40 * m + 8 - 32 * m) (drop (32 * m) s) =
      drop_take_le (32 * m) (40 * m + 8) s (omega arith) in
      rw (
        cells_front datom_of 32 n (40 * m + 8) s (omega arith),
        e,
        cells_front page_of 8 (suc n) (40 * m + 8 - 32 * m) (drop (32 * m) s) (omega arith),
      )

  -- so it stays where all behind it becomes x
  pub node_framed : (s x : List ℕ) → 40 * m + 8 ≤ length s → node_of m l n (take (40 * m + 8) s ++ x) ≡ node_of m l n s
  node_framed s x h =
      sym (node_front (take (40 * m + 8) s ++ x))
      ∙ rw (take_at (take (40 * m + 8) s) x (40 * m + 8) (length-take-le (40 * m + 8) s h)) (node_front s)

  -- and where something is stored behind it
  pub node_kept : (s : List ℕ) (at : ℕ) (p : List ℕ) → 40 * m + 8 ≤ at → at ≤ length s → node_of m l n (patch s at p) ≡ node_of m l n s
  node_kept s at p h k =
      let e : take (40 * m + 8) (patch s at p) ≡ take (40 * m + 8) s =
      sym (take-take (40 * m + 8) at (patch s at p) h) ∙ ap (take (40 * m + 8)) (take_patch s at p k) ∙ take-take (40 * m + 8) at s h in
      sym (node_front (patch s at p)) ∙ ap (node_of m l n) e ∙ node_front s

-- all from a byte on is lent to a call, and comes back as x
module _ (at : ℕ) (s : List ℕ) where
  pub lent : take (length s - at) (drop at s) ≡ drop at s
  lent = take_all (length s - at) (drop at s) (omega (arith, length-drop at s))

  pub given_back : (x : List ℕ) → at ≤ length s → drop at (take at s ++ (x ++ drop (length s - at) (drop at s))) ≡ x
  given_back x h =
      let e : drop (length s - at) (drop at s) ≡ [] = drop_of_length-le (drop at s) {i = length s - at} (omega (arith, length-drop at s)) in
      rw (e, append-nil) (drop_at (take at s) x at (length-take-le at s h))

-- a span of n datoms is sent to byte `to`: there it is the batch that the rule sends down
module _ (n from upto to : ℕ) (s : List ℕ) (rises : from ≤ upto) (within : upto ≤ n) (room : to + 32 * (upto - from) ≤ length s) (here : 32 * n ≤ length s) where
  pub span_sent : datoms_of (upto - from) (drop to (move_of s (32 * from) to (32 * (upto - from)))) ≡ drop from (take upto (datoms_of n s))
  span_sent =
      let c = upto - from in
      let q = take (32 * c) (drop (32 * from) s) in
      let rest = drop (to + length q) s in
      let wide : length q ≡ 32 * c = cut (32 * c) (32 * from) s (omega arith) in
      let there : datoms_of c (q ++ rest) ≡ datoms_of c q =
      sym (cells_front datom_of 32 c (32 * c) (q ++ rest) (omega arith)) ∙ ap (datoms_of c) (take_at q rest (32 * c) wide) in
      rw (
        drop_patch s to q (omega arith),
        there,
        cells_front datom_of 32 c (32 * c) (drop (32 * from) s) (omega arith),
        cells_take datom_of 32 n upto s within,
        cells_drop datom_of 32 upto from s rises,
      )
