-- "The heap only grows": what stands below its length stays what it is.
use Rattle.std.specs.Prelude.{ℕ, ◌+◌, ◌-◌, ◌%◌, ◌^◌, ◌≤◌, true, ◌&&◌, List, ◌++◌, ◌≡◌, eqb, length, take, drop}
use Rattle.std.proofs.Common.{arith, leb-true, le-leb, length-append, length-drop}
use Rattle.std.proofs.Math.Path.{ap}
use Rattle.std.proofs.Math.Dec.{leb}
use Rattle.std.proofs.lemmas.List.{take-append-le, drop-append-le}
use Rattle.store.specs.Words.{little, word_at}
use Rattle.store.specs.Laws.{both}
use Rattle.heap.specs.Constant.{up_to8, all_zero, word_there, bytes_there, integer_at, bytes_at, valid_int, padded, valid_str}
use Rattle.heap.specs.Laws.{word_in, bytes_in}

module _ (h k : List ℕ) where
  -- a part of the heap
  part_grows : (at n : ℕ) → at + n ≤ length h → take n (drop at (h ++ k)) ≡ take n (drop at h)
  part_grows at n p =
      rw (drop-append-le at h k (omega arith)) (take-append-le n (drop at h) k (simp length-drop (omega arith)))

  longer : (n : ℕ) → leb n (length h) ≡ true → leb n (length (h ++ k)) ≡ true
  longer n p = le-leb n (length (h ++ k)) (simp length-append (omega (arith, leb-true n (length h) p)))

  module _ (o : ℕ) where
    word_same : word_there h o ≡ true → word_at (h ++ k) o ≡ word_at h o
    unfolding word_at
    word_same p = ap little (part_grows o 8 (word_in h o p))

    pub word_grows : word_there h o ≡ true → word_there (h ++ k) o ≡ true
    unfolding word_there
    word_grows p = longer (o + 8) p

    pub integer_grows : word_there h o ≡ true → integer_at (h ++ k) o ≡ integer_at h o
    unfolding integer_at
    integer_grows p = rw (p, word_grows p) (word_same p)

    pub bytes_grow : bytes_there h o ≡ true → bytes_there (h ++ k) o ≡ true
    unfolding bytes_there
    bytes_grow p =
        let w = both (word_there h o) (leb (o + 8 + word_at h o) (length h)) p in
        rw (word_grows w.0, word_same w.0) (longer (o + 8 + word_at h o) w.1)

    pub text_grows : bytes_there h o ≡ true → bytes_at (h ++ k) o ≡ bytes_at h o
    unfolding bytes_at bytes_there
    text_grows p =
        let w = both (word_there h o) (leb (o + 8 + word_at h o) (length h)) p in
        let e = bytes_grow p in
        rw (word_grows w.0, w.0, w.1, word_same w.0, longer (o + 8 + word_at h o) w.1)
        (part_grows (o + 8) (word_at h o) (bytes_in h o p).1)

    pub int_grows : valid_int h o ≡ true → valid_int (h ++ k) o ≡ true
    unfolding valid_int
    int_grows p =
        let w₁ = both (eqb (o % 8) 0 && word_there h o) (leb (2 ^ 62) (word_at h o)) p in
        let w₂ = both (eqb (o % 8) 0) (word_there h o) w₁.0 in
        rw (w₂.0, word_grows w₂.1, word_same w₂.1) w₁.1

  padding_grows : (at n : ℕ) → padded h at n ≡ true → padded (h ++ k) at n ≡ true
  unfolding padded
  padding_grows at n p =
      let w = both (leb (at + (up_to8 n - n)) (length h)) (all_zero (take (up_to8 n - n) (drop at h))) p in
      rw (longer (at + (up_to8 n - n)) w.0, part_grows at (up_to8 n - n) (leb-true _ _ w.0)) w.1

  pub str_grows : (o : ℕ) → valid_str h o ≡ true → valid_str (h ++ k) o ≡ true
  unfolding valid_str bytes_there
  str_grows o p =
      let w₁ = both (eqb (o % 8) 0 && (word_there h o && leb (o + 8 + word_at h o) (length h)) && leb 8 (word_at h o)) (padded h (o + 8 + word_at h o) (word_at h o)) p in
      let w₂ = both (eqb (o % 8) 0 && (word_there h o && leb (o + 8 + word_at h o) (length h))) (leb 8 (word_at h o)) w₁.0 in
      let w₃ = both (eqb (o % 8) 0) (word_there h o && leb (o + 8 + word_at h o) (length h)) w₂.0 in
      let w₄ = both (word_there h o) (leb (o + 8 + word_at h o) (length h)) w₃.1 in
      rw (w₃.0, word_grows o w₄.0, word_same o w₄.0, longer (o + 8 + word_at h o) w₄.1, w₂.1) (padding_grows (o + 8 + word_at h o) (word_at h o) w₁.1)
