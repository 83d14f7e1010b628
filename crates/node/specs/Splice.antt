-- What a flush puts in place of a span: the four moves of the code give the node that the rule gives.
use Prim.Native.Nat.{ℕ, suc, ◌+◌, ◌-◌, ◌*◌, ◌≤◌}
use Rattle.std.proofs.Math.Numerals.{add-one}
use native.Mathlib.Omega.{arith}
use Rattle.std.specs.Prelude.{List, ◌++◌, ◌≡◌, length, take, drop}
use Rattle.std.proofs.Common.{sym, ap, ◌∙◌, length-drop, drop-drop}
use Rattle.store.specs.Words.{cells, patch}
use Rattle.store.specs.Page.{page_of}
use Rattle.store.specs.Cells.{cells_kept, drop_patch_add, cells_take, cells_drop}
use Rattle.datom.specs.Datom.{datom_of, datoms_of}
use Rattle.rules.specs.Page.{node_of, children_of}
use Rattle.rules.specs.Node.{splice}
use Rattle.node.specs.Moves.{move_of, move_length, move_past, two_runs}

-- the slice s becomes t: of n datoms those of a span, with the child at its end, are replaced by the node of k datoms that stands in
-- the area behind, whatever the levels
pub record Spliced (m n from upto k : ℕ) (s t : List ℕ) : Type 0 where
  pub node :
      (l l₁ : ℕ) →
      node_of m l (n - (upto - from) + k) t ≡ splice (node_of m l n s) (record { from = from; upto = upto }) (node_of m l₁ k (drop (40 * m + 8) s))
  pub same : length t ≡ length s

-- two results that meet it have one node in the area
pub spliced_same :
    {m n from upto k : ℕ} {s t t₁ : List ℕ} → Spliced m n from upto k s t → Spliced m n from upto k s t₁ →
    (l : ℕ) → node_of m l (n - (upto - from) + k) t ≡ node_of m l (n - (upto - from) + k) t₁
spliced_same A B l = A.node l 0 ∙ sym (B.node l 0)

module _
    (m n from upto k : ℕ)
    (s : List ℕ)
    (fewer : from + k ≤ upto)
    (within : upto ≤ n)
    (few : n ≤ m)
    (room : 40 * m + 8 + (40 * m + 8) ≤ length s)
  where
    abbrev own : ℕ
    own = 40 * m + 8

    abbrev s₁ : List ℕ
    s₁ = move_of s own (32 * from) (32 * k)

    abbrev s₂ : List ℕ
    s₂ = move_of s₁ (32 * upto) (32 * (from + k)) (32 * (n - upto))

    abbrev s₃ : List ℕ
    s₃ = move_of s₂ (own + 32 * m) (32 * m + 8 * from) (8 * (k + 1))

    abbrev s₄ : List ℕ
    s₄ = move_of s₃ (32 * m + 8 * (upto + 1)) (32 * m + 8 * (from + (k + 1))) (8 * (n - upto))

    l₁ : length s₁ ≡ length s
    l₁ = move_length s own (32 * from) (32 * k) (omega arith) (omega arith)

    l₂ : length s₂ ≡ length s
    l₂ = move_length s₁ (32 * upto) (32 * (from + k)) (32 * (n - upto)) (omega (arith, l₁)) (omega (arith, l₁)) ∙ l₁

    l₃ : length s₃ ≡ length s
    l₃ = move_length s₂ (own + 32 * m) (32 * m + 8 * from) (8 * (k + 1)) (omega (arith, l₂)) (omega (arith, l₂)) ∙ l₂

    l₄ : length s₄ ≡ length s
    l₄ =
        move_length s₃ (32 * m + 8 * (upto + 1)) (32 * m + 8 * (from + (k + 1))) (8 * (n - upto)) (omega (arith, l₃)) (omega (arith, l₃)) ∙ l₃

    -- what lies past the moves of datoms, and past that of the children that come back
    past₁ : (at : ℕ) → 32 * upto ≤ at → at ≤ length s → drop at s₁ ≡ drop at s
    past₁ at h l = move_past s own (32 * from) (32 * k) (omega arith) (omega arith) at (omega arith) l

    past₂ : (at : ℕ) → 32 * m ≤ at → at ≤ length s → drop at s₂ ≡ drop at s
    past₂ at h l =
        move_past s₁ (32 * upto) (32 * (from + k)) (32 * (n - upto)) (omega (arith, l₁)) (omega (arith, l₁)) at (omega arith) (omega (arith, l₁))
        ∙ past₁ at (omega arith) l

    past₃ : (at : ℕ) → 32 * m + 8 * (upto + 1) ≤ at → at ≤ length s → drop at s₃ ≡ drop at s
    past₃ at h l =
        move_past s₂ (own + 32 * m) (32 * m + 8 * from) (8 * (k + 1)) (omega (arith, l₂)) (omega (arith, l₂)) at (omega arith) (omega (arith, l₂))
        ∙ past₂ at (omega arith) l

    datoms_after : datoms_of (from + k + (n - upto)) s₄ ≡ take from (datoms_of n s) ++ (datoms_of k (drop own s) ++ drop upto (datoms_of n s))
    datoms_after =
        cells_kept datom_of 32 (from + k + (n - upto)) s₃ (32 * m + 8 * (from + (k + 1))) _ (omega arith) (omega (arith, l₃))
        ∙ cells_kept datom_of 32 (from + k + (n - upto)) s₂ (32 * m + 8 * from) _ (omega arith) (omega (arith, l₂))
        ∙ rw (past₁ (32 * upto) (omega arith) (omega arith), cells_take datom_of 32 n from s (omega arith), cells_drop datom_of 32 n upto s within)
        (two_runs datom_of 32 from k (n - upto) s (drop own s) (drop (32 * upto) s) (omega arith) (simp length-drop (omega arith)) (simp length-drop (omega arith)))

    children_after :
        children_of m (from + (k + 1) + (n - upto)) s₄
        ≡ take from (children_of m (suc n) s) ++ (children_of m (k + 1) (drop own s) ++ drop (suc upto) (children_of m (suc n) s))
    children_after =
        let t = drop (32 * m) s in
        let q₃ = take (8 * (k + 1)) (drop (own + 32 * m) s₂) in
        let q₄ = take (8 * (n - upto)) (drop (32 * m + 8 * (upto + 1)) s₃) in
        let v₄ : drop (32 * m) s₄ ≡ patch (drop (32 * m) s₃) (8 * (from + (k + 1))) q₄ =
        drop_patch_add s₃ (32 * m) (8 * (from + (k + 1))) q₄ (omega (arith, l₃)) in
        let v₃ : drop (32 * m) s₃ ≡ patch (drop (32 * m) s₂) (8 * from) q₃ = drop_patch_add s₂ (32 * m) (8 * from) q₃ (omega (arith, l₂)) in
        let v₂ : drop (32 * m) s₂ ≡ t = past₂ (32 * m) (omega arith) (omega arith) in
        let w₃ : drop (own + 32 * m) s₂ ≡ drop (32 * m) (drop own s) = past₂ (own + 32 * m) (omega arith) (omega arith) ∙ rw drop-drop in
        let w₄ : drop (32 * m + 8 * (upto + 1)) s₃ ≡ drop (8 * suc upto) t =
        past₃ (32 * m + 8 * (upto + 1)) (omega arith) (omega arith) ∙ rw (drop-drop (8 * suc upto) (32 * m) s, ← add-one upto) in
        let z : suc n - suc upto ≡ n - upto = omega arith in
        ap (cells page_of 8 (from + (k + 1) + (n - upto)))
        (v₄ ∙ ap (λ (x : List ℕ). patch x (8 * (from + (k + 1))) q₄) (v₃ ∙ ap (λ (x : List ℕ). patch x (8 * from) q₃) v₂))
        ∙ rw (w₄, w₃, cells_take page_of 8 (suc n) from t (omega arith), cells_drop page_of 8 (suc n) (suc upto) t (omega arith), z)
        (two_runs page_of 8 from (k + 1) (n - upto) t (drop (32 * m) (drop own s)) (drop (8 * suc upto) t) (simp length-drop (omega arith))
        (simp (length-drop, length-drop) (omega arith)) (simp (length-drop, length-drop) (omega arith)))

    pub spliced : Spliced m n from upto k s s₄
    unfolding node_of splice
    spliced =
        let e : n - (upto - from) + k ≡ from + k + (n - upto) = omega arith in
        let f : suc (from + k + (n - upto)) ≡ from + (k + 1) + (n - upto) = omega arith in
        record { node = λ l l₁. rw (e, datoms_after, f, children_after, add-one k); same = l₄ }
