-- Stores with zeros behind them.
use Rattle.std.specs.Prelude.{ℕ, take, ◌+◌, ◌-◌, ◌<◌, ◌≤◌, List, [], ◌∷◌, ◌++◌, ◌≡◌, length, set}
use Rattle.std.proofs.Common.{add-one, arith, append_assoc, ap, sym, ◌∙◌, get_or, length-append, length-take-le}
use Rattle.std.proofs.lemmas.List.{take_more, length-replicate, replicate-append-replicate, set_split}
use Rattle.store.specs.Words.{zeros, pad, patch}
use Rattle.store.specs.Cells.{patch_none, patch_length, patch_patch}

-- zeros
pub zeros_length : (n : ℕ) → length (zeros n) ≡ n
zeros_length n = length-replicate {A = ℕ} n 0

zeros_more : (n m : ℕ) → zeros n ++ zeros m ≡ zeros (n + m)
zeros_more n m = replicate-append-replicate {A = ℕ} n m 0

-- a byte stored is a store of one byte
set_one : (s : List ℕ) (i v : ℕ) → i < length s → set s i v ≡ patch s i (v ∷ [])
unfolding patch
set_one s i v h = rw (append_assoc, add-one) (set_split s i v h)

-- no byte cleared yet, and one more
pub cleared_none : (s : List ℕ) (at : ℕ) → s ≡ patch s at (zeros (at - at))
cleared_none s at = let e : at - at ≡ 0 = omega arith in rw (e, patch_none s at)

pub cleared : (s : List ℕ) (at i : ℕ) → at ≤ i → i < length s → set (patch s at (zeros (i - at))) i 0 ≡ patch s at (zeros (i + 1 - at))
cleared s at i h l =
    let z = zeros (i - at) in
    let k : at + length z ≡ i = omega (arith, zeros_length (i - at)) in
    let n : length (patch s at z) ≡ length s = patch_length s at z (omega arith) in
    let e : i - at + 1 ≡ i + 1 - at = omega arith in
    set_one (patch s at z) i 0 (omega arith) ∙ rw k at (patch_patch s at z (zeros 1) (omega arith))
    ∙ ap (patch s at) (zeros_more (i - at) 1 ∙ ap zeros e)

-- bytes, and zeros behind them
pub padded :
    (s : List ℕ) (at room : ℕ) (p : List ℕ) → length p ≤ room → at + room ≤ length s →
    patch (patch s at p) (at + length p) (zeros (at + room - (at + length p))) ≡ patch s at (pad room p)
unfolding pad
padded s at room p h l =
    let e : at + room - (at + length p) ≡ room - length p = omega arith in
    rw e (patch_patch s at p (zeros (room - length p)) (omega (arith, zeros_length (room - length p))))

pub pad_append : (n m : ℕ) (p q : List ℕ) → length p ≡ n → pad (n + m) (p ++ q) ≡ p ++ pad m q
unfolding pad
pad_append n m p q e =
    let k : n + m - length (p ++ q) ≡ m - length q = omega (arith, length-append p q) in
    rw (k, append_assoc)

-- the bytes that a loop has put so far: none, and one more
pub put_none : (s : List ℕ) (at : ℕ) (p : List ℕ) → s ≡ patch s at (take 0 p)
put_none s at p = sym (patch_none s at)

pub put_more : (s p : List ℕ) (at i : ℕ) → i < length p → at + length p ≤ length s → set (patch s at (take i p)) (at + i) (get_or p i 0) ≡ patch s at (take (i + 1) p)
put_more s p at i h l =
    let z = take i p in
    let zl : length z ≡ i = length-take-le i p (omega arith) in
    let k : at + length z ≡ at + i = omega (arith, zl) in
    let n : length (patch s at z) ≡ length s = patch_length s at z (omega (arith, zl)) in
    set_one (patch s at z) (at + i) (get_or p i 0) (omega arith) ∙ rw k at (patch_patch s at z (get_or p i 0 ∷ []) (omega (arith, zl)))
    ∙ ap (patch s at) (sym (take_more p i 0 h))
