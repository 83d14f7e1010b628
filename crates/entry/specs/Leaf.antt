-- A batch laid into the scratch: as the leaf that initialise begins with, or behind the area.
use Rattle.std.specs.Prelude.{ℕ, suc, ◌+◌, ◌*◌, ◌≤◌, List, [], ◌∷◌, ◌++◌, ◌≡◌, refl, length, take, drop, replicate}
use Rattle.std.proofs.Common.{add-one, arith, sym, ◌∙◌, ap, take_at, take-take}
use Rattle.std.proofs.lemmas.List.{replicate-append-replicate}
use Rattle.store.specs.declared.PageId.{PageId}
use Rattle.store.specs.Words.{cells, patch}
use Rattle.store.specs.Page.{none, page_bytes}
use Rattle.store.specs.Laws.{cells_length, page_length}
use Rattle.store.specs.Cells.{take_patch, drop_patch, patch_length, cells_front}
use Rattle.datom.specs.Datom.{datom_of, datoms_of}
use Rattle.rules.specs.Page.{Node, node_of, children_of, node_is}
use Rattle.rules.specs.Tree.{Env, write_root}
use Rattle.rules.specs.Insert.{leaf_of, fresh_tree}
use Rattle.node.specs.Stores.{child_front}

-- a batch of n datoms stands where it was stored
pub batch_put : (n at : ℕ) (s b : List ℕ) → at ≤ length s → length b ≡ 32 * n → datoms_of n (drop at (patch s at b)) ≡ datoms_of n b
batch_put n at s b h e =
    let rest = drop (at + length b) s in
    rw (drop_patch s at b h)
    (sym (cells_front datom_of 32 n (32 * n) (b ++ rest) (omega arith)) ∙ ap (cells datom_of 32 n) (take_at b rest (32 * n) e))

-- what initialise writes, of the n datoms at the front of an area
pub fresh_front : (e : Env) (n : ℕ) (s : List ℕ) (o : List Node) → fresh_tree e (datoms_of n s) o ≡ write_root e n (leaf_of (datoms_of n s)) o
fresh_front e n s o = ap (λ (k : ℕ). write_root e k (leaf_of (datoms_of n s)) o) (cells_length datom_of 32 n s)

-- the first i children are none, and the datoms are as before
pub record Cleared (m i : ℕ) (s t : List ℕ) : Type 0 where
  pub children : children_of m i t ≡ replicate i none
  pub front : take (32 * m) t ≡ take (32 * m) s
  pub same : length t ≡ length s

pub cleared_start : (m : ℕ) (s : List ℕ) → Cleared m 0 s s
unfolding cells
cleared_start m s = record { children = refl; front = refl; same = refl }

pub cleared_on :
    (m i : ℕ) (s t : List ℕ) → Cleared m i s t → i ≤ m → 40 * m + 8 ≤ length s → Cleared m (i + 1) s (patch t (32 * m + 8 * i) (page_bytes none))
cleared_on m i s t C h room =
    let fits : 40 * m + 8 ≤ length t = omega (arith, C.same) in
    let front : (u : List ℕ) → take (32 * m) (take (32 * m + 8 * i) u) ≡ take (32 * m) u = λ u. take-take (32 * m) (32 * m + 8 * i) u (omega arith) in
    record {
      children = child_front m i t fits none h (omega arith) ∙ ap (λ (l : List PageId). l ++ (none ∷ [])) C.children ∙ replicate-append-replicate i 1 none;
      front =
          sym (front (patch t (32 * m + 8 * i) (page_bytes none))) ∙ ap (take (32 * m)) (take_patch t (32 * m + 8 * i) (page_bytes none) (omega arith)) ∙ front t ∙ C.front;
      same = patch_length t (32 * m + 8 * i) (page_bytes none) (omega (arith, page_length none)) ∙ C.same;
    }

-- then the area holds a leaf
pub cleared_leaf : (m n : ℕ) (s t : List ℕ) → Cleared m (n + 1) s t → n ≤ m → node_of m 0 n t ≡ leaf_of (datoms_of n s)
unfolding leaf_of
cleared_leaf m n s t C h =
    let datoms : datoms_of n t ≡ datoms_of n s =
    sym (cells_front datom_of 32 n (32 * m) t (omega arith)) ∙ ap (cells datom_of 32 n) C.front ∙ cells_front datom_of 32 n (32 * m) s (omega arith) in
    let children : children_of m (suc n) t ≡ replicate (suc (length (datoms_of n s))) none =
    ap (λ (k : ℕ). children_of m k t) (sym (add-one n)) ∙ C.children
    ∙ ap (λ (k : ℕ). replicate k none) (let z : n + 1 ≡ suc (length (datoms_of n s)) = omega (arith, cells_length datom_of 32 n s) in z) in
    rw (node_is m 0 n t, datoms, children)
