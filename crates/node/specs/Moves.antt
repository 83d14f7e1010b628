-- Bytes that move within one slice, and cells among them.
use Rattle.std.specs.Prelude.{ℕ, suc, ◌+◌, ◌*◌, ◌≤◌, ◌<◌, List, ◌++◌, ◌≡◌, length, take, drop}
use Rattle.std.proofs.Math.Decide.{dec_le}
use Rattle.std.proofs.Common.{mul-add, mul-suc, mul-zero, mul-le-mul_left, add-one, arith, append_assoc, sym, ap, ◌∙◌, length-drop, length-take-le, take-add, drop-drop}
use Rattle.store.specs.Words.{cells, patch}
use Rattle.store.specs.Cells.{patch_length, patch_none, patch_patch, patch_before, drop_patch_le, cut, cells_front, cells_put}

-- the slice after `size` bytes have gone from one place to another
abbrev pub move_of : List ℕ → ℕ → ℕ → ℕ → List ℕ
move_of s from to size = patch s to (take size (drop from s))

module _ (s : List ℕ) (from to size : ℕ) (h : from + size ≤ length s) (g : to + size ≤ length s) where
  pub move_length : length (move_of s from to size) ≡ length s
  move_length = patch_length s to (take size (drop from s)) (omega (arith, cut size from s h))

  pub move_past : (at : ℕ) → to + size ≤ at → at ≤ length s → drop at (move_of s from to size) ≡ drop at s
  move_past at k l = drop_patch_le s to (take size (drop from s)) at (omega (arith, cut size from s h)) l

-- A move of n cells of w bytes, one after the other, first cell first. They go down, or to a place past all of them.
module _ (w : ℕ) (s : List ℕ) (from to : ℕ) where
  pub move_start : s ≡ move_of s from to (w * 0)
  move_start = rw mul-zero (sym (patch_none s to))

  module _ (n i : ℕ) (within : i < n) (here : from + w * n ≤ length s) (there : to + w * n ≤ length s) (apart : from < to → from + w * n ≤ to) where
    turn : w * i + w ≤ w * n
    turn = omega (arith, mul-le-mul_left {m = suc i} {n = n} w (omega arith), mul-suc w i)

    -- the cell that is next is still as it was
    next : take w (drop (from + w * i) (move_of s from to (w * i))) ≡ take w (drop (w * i) (drop from s))
    next = still ∙ rw drop-drop
      where
        still : take w (drop (from + w * i) (move_of s from to (w * i))) ≡ take w (drop (from + w * i) s)
        still = elim (dec_le to from) [
          | yes a ↦ ap (take w) (move_past s from to (w * i) (omega (arith, turn)) (omega (arith, turn)) (from + w * i) (omega (arith, a)) (omega (arith, turn)))
          | no a ↦ patch_before s to (take (w * i) (drop from s)) (from + w * i) w (omega (arith, turn, apart (omega (arith, a)))) (omega arith)
        ]

    -- and its move makes the move of i cells one of i + 1
    pub move_on : (t : List ℕ) → t ≡ move_of s from to (w * i) → move_of t (from + w * i) (to + w * i) w ≡ move_of s from to (w * (i + 1))
    move_on t e =
        let d = drop from s in
        let p = take (w * i) d in
        let q = take w (drop (w * i) d) in
        let lp : length p ≡ w * i = cut (w * i) from s (omega (arith, turn)) in
        let lq : length q ≡ w = cut w (w * i) d (simp length-drop (omega (arith, turn))) in
        let j : patch (patch s to p) (to + length p) q ≡ patch s to (p ++ q) = patch_patch s to p q (omega (arith, turn)) in
        rw (e, next, add-one, mul-suc, take-add, ← j, lp)

module _ {A : Type 0} (f : List ℕ → A) (w : ℕ) where
  -- i cells, and two runs of others that are stored behind them
  pub two_runs :
      (i a b : ℕ) (s x y : List ℕ) → w * (i + a + b) ≤ length s → w * a ≤ length x → w * b ≤ length y →
      cells f w (i + a + b) (patch (patch s (w * i) (take (w * a) x)) (w * (i + a)) (take (w * b) y)) ≡ cells f w i s ++ (cells f w a x ++ cells f w b y)
  two_runs i a b s x y h hx hy =
      let e₁ = mul-add w i a in
      let e₂ = mul-add w (i + a) b in
      let lx : length (take (w * a) x) ≡ w * a = length-take-le (w * a) x hx in
      let ly : length (take (w * b) y) ≡ w * b = length-take-le (w * b) y hy in
      let k = patch_length s (w * i) (take (w * a) x) (omega arith) in
      rw (
        cells_put f w (i + a) b (patch s (w * i) (take (w * a) x)) (take (w * b) y) ly (omega arith),
        cells_put f w i a s (take (w * a) x) lx (omega arith),
        cells_front f w a (w * a) x (omega arith),
        cells_front f w b (w * b) y (omega arith),
        append_assoc,
      )
