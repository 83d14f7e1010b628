-- What a datom or a child that is stored at an index of an area does to the node there.
use Rattle.std.specs.Prelude.{ℕ, ◌+◌, ◌*◌, ◌^◌, ◌<◌, ◌≤◌, List, [], ◌∷◌, ◌++◌, ◌≡◌, length, take, drop}
use Rattle.std.proofs.Common.{arith, ap, ◌∙◌, length-drop, drop-drop}
use Rattle.store.specs.declared.PageId.{PageId}
use Rattle.store.specs.Words.{cells, patch}
use Rattle.store.specs.Page.{page_of, page_bytes}
use Rattle.store.specs.Laws.{page_length, page_back}
use Rattle.store.specs.Cells.{cells_push, cells_kept, drop_patch_add, drop_patch_le, cut, cells_drop}
use Rattle.datom.specs.Datom.{datom_at, datom_of, datoms_of}
use Rattle.datom.specs.Laws.{datom_cell}
use Rattle.rules.specs.Page.{children_of}

module _ (m p : ℕ) (s : List ℕ) (room : 40 * m + 8 ≤ length s) where
  -- a datom's bytes at index p
  module _ (b : List ℕ) (wide : length b ≡ 32) (within : p < m) where
    pub datom_front : datoms_of (p + 1) (patch s (32 * p) b) ≡ datoms_of p s ++ (datom_of b ∷ [])
    datom_front = cells_push datom_of 32 p s b wide (omega arith)

    pub datom_past : (at : ℕ) → 32 * (p + 1) ≤ at → at ≤ length s → drop at (patch s (32 * p) b) ≡ drop at s
    datom_past at h l = drop_patch_le s (32 * p) b at (omega arith) l

    pub datom_rest : (n j : ℕ) → p < j → j ≤ n → n ≤ m → drop j (datoms_of n (patch s (32 * p) b)) ≡ drop j (datoms_of n s)
    datom_rest n j h k l =
        rw (cells_drop datom_of 32 n j (patch s (32 * p) b) k, cells_drop datom_of 32 n j s k, datom_past (32 * j) (omega arith) (omega arith))

    pub datom_children : (t : ℕ) → children_of m t (patch s (32 * p) b) ≡ children_of m t s
    datom_children t = ap (cells page_of 8 t) (datom_past (32 * m) (omega arith) (omega arith))

  -- the datom at index i, at index p
  module _ (i : ℕ) (below : p ≤ i) (within : i < m) where
    abbrev b : List ℕ
    b = take 32 (drop (32 * i) s)

    wide : length b ≡ 32
    wide = cut 32 (32 * i) s (omega arith)

    pub midpoint_front : datoms_of (p + 1) (patch s (32 * p) b) ≡ datoms_of p s ++ (datom_at s (32 * i) ∷ [])
    midpoint_front = rw (← datom_cell) (datom_front b wide (omega arith))

    pub midpoint_rest : (n j : ℕ) → p < j → j ≤ n → n ≤ m → drop j (datoms_of n (patch s (32 * p) b)) ≡ drop j (datoms_of n s)
    midpoint_rest = datom_rest b wide (omega arith)

    pub midpoint_children : (t : ℕ) → children_of m t (patch s (32 * p) b) ≡ children_of m t s
    midpoint_children = datom_children b wide (omega arith)

  -- a child at index p
  module _ (id : PageId) (within : p ≤ m) where
    abbrev after : List ℕ
    after = patch s (32 * m + 8 * p) (page_bytes id)

    pub child_front : id.0 < 2 ^ 64 → children_of m (p + 1) after ≡ children_of m p s ++ (id ∷ [])
    child_front small =
        ap (cells page_of 8 (p + 1)) (drop_patch_add s (32 * m) (8 * p) (page_bytes id) (omega arith))
        ∙ cells_push page_of 8 p (drop (32 * m) s) (page_bytes id) (page_length id) (simp length-drop (omega arith))
        ∙ ap (λ (x : PageId). children_of m p s ++ (x ∷ [])) (page_back id small)

    pub child_past : (at : ℕ) → 32 * m + 8 * (p + 1) ≤ at → at ≤ length s → drop at after ≡ drop at s
    child_past at h l = drop_patch_le s (32 * m + 8 * p) (page_bytes id) at (omega (arith, page_length id)) l

    pub child_rest : (t j : ℕ) → p < j → j ≤ t → t ≤ m + 1 → drop j (children_of m t after) ≡ drop j (children_of m t s)
    child_rest t j h k l =
        rw (
          cells_drop page_of 8 t j (drop (32 * m) after) k,
          cells_drop page_of 8 t j (drop (32 * m) s) k,
          drop-drop (8 * j) (32 * m) after,
          drop-drop (8 * j) (32 * m) s,
          child_past (32 * m + 8 * j) (omega arith) (omega arith),
        )

    pub child_datoms : (t : ℕ) → t ≤ m → datoms_of t after ≡ datoms_of t s
    child_datoms t h = cells_kept datom_of 32 t s (32 * m + 8 * p) (page_bytes id) (omega arith) (omega arith)
