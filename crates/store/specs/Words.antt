-- Bytes and words: lists of bytes, and what stands in them.
use Rattle.std.specs.Prelude.{ℕ, zero, suc, ◌+◌, ◌-◌, ◌*◌, ◌/◌, ◌%◌, List, [], ◌∷◌, ◌++◌, length, take, drop, replicate}

-- "each 8 bytes little-endian": the number of which the bytes are the digits, lowest first
unfoldable pub little : List ℕ → ℕ
little [] = 0
little (b ∷ bs) = b + 256 * little bs

-- the n lowest bytes of a number, lowest first
unfoldable pub bytes_of : ℕ → ℕ → List ℕ
bytes_of zero v = []
bytes_of (suc n) v = (v % 256) ∷ bytes_of n (v / 256)

-- the word at a byte offset
unfoldable pub word_at : List ℕ → ℕ → ℕ
word_at s at = little (take 8 (drop at s))

-- eight bytes as a number
abbrev pub word_of : ℕ → ℕ → ℕ → ℕ → ℕ → ℕ → ℕ → ℕ → ℕ
word_of b0 b1 b2 b3 b4 b5 b6 b7 =
    b0 + b1 * 256 + b2 * 65536 + b3 * 16777216 + (b4 + b5 * 256 + b6 * 65536 + b7 * 16777216) * 4294967296

-- the n things of w bytes each from the front of a list of bytes
unfoldable pub cells : {A : Type 0} → (List ℕ → A) → ℕ → ℕ → List ℕ → List A
cells f w zero s = []
cells f w (suc n) s = f (take w s) ∷ cells f w n (drop w s)

-- the bytes of things, one after the other
unfoldable pub spread : {A : Type 0} → (A → List ℕ) → List A → List ℕ
spread g [] = []
spread g (x ∷ xs) = g x ++ spread g xs

-- zeros in number
abbrev pub zeros : ℕ → List ℕ
zeros n = replicate n 0

-- bytes with zeros behind them, n in all
unfoldable pub pad : ℕ → List ℕ → List ℕ
pad n s = s ++ zeros (n - length s)

-- `s` with `p` from index `at` on
unfoldable pub patch : List ℕ → ℕ → List ℕ → List ℕ
patch s at p = take at s ++ p ++ drop (at + length p) s
