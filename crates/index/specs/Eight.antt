-- Eight bytes of a byte string are compared as one number, the first of them highest.
use Prim.Native.Nat.{ℕ, zero, suc, ◌+◌, ◌*◌, ◌/◌, ◌%◌, ◌^◌, ◌<◌, ◌≤◌, compare, Ordering}
use Rattle.std.proofs.Common.{mul-le-mul_right, arith, sym, ap, ◌∙◌, take-append-drop, drop-drop}
use Rattle.std.proofs.Math.Nat.{div-div-eq-div-mul}
use Rattle.std.specs.Prelude.{List, ◌++◌, ◌≡◌, refl, length, drop}
use Rattle.std.specs.Int.{swap_bytes, w64}
use Rattle.store.specs.Words.{bytes_of, word_at}
use Rattle.store.specs.Bytes.{Bytes}
use Rattle.store.specs.Laws.{word_back, word_small}
use Rattle.std.specs.declared.cmp.Ordering.TheVariants.{Less, Greater}
use Rattle.index.specs.Order.{and_then, cmp_bytes, named}
use Rattle.index.specs.Key.{turned, swapped}
use Rattle.index.specs.Keys.{power}
use Rattle.index.specs.Compare.{cmp_lt, cmp_gt, cmp_eq, cmp_same, digit, three, below, same, above}

-- the n low bytes of a number as the digits of another, the lowest of them highest
turn : ℕ → ℕ → ℕ
turn zero v = 0
turn (suc n) v = v % 256 * power n + turn n (v / 256)

turn_below : (n v : ℕ) → turn n v < power n
unfolding turn power
turn_below zero v = omega arith
turn_below (suc n) v =
    let d : v % 256 * power n ≤ 255 * power n = mul-le-mul_right (power n) (omega arith) in
    omega (arith, turn_below n (v / 256))

-- as many bytes of both, by one number each
by_turn : (n v w : ℕ) → cmp_bytes (bytes_of n v) (bytes_of n w) ≡ compare (turn n v) (turn n w)
unfolding bytes_of cmp_bytes turn
by_turn zero v w = sym (cmp_same 0)
by_turn (suc n) v w =
    ap (and_then (compare (v % 256) (w % 256))) (by_turn n (v / 256) (w / 256))
    ∙ digit (power n) (v % 256) (w % 256) (turn n (v / 256)) (turn n (w / 256)) (turn_below n (v / 256)) (turn_below n (w / 256))

then_then : (o p q : Ordering) → and_then (and_then o p) q ≡ and_then o (and_then p q)
unfolding and_then
then_then Ordering.lt p q = refl
then_then Ordering.eq p q = refl
then_then Ordering.gt p q = refl

-- and what stands behind them
by_front :
    (n v w : ℕ) (p q : List ℕ) → cmp_bytes (bytes_of n v ++ p) (bytes_of n w ++ q) ≡ and_then (cmp_bytes (bytes_of n v) (bytes_of n w)) (cmp_bytes p q)
unfolding bytes_of cmp_bytes and_then
by_front zero v w p q = refl
by_front (suc n) v w p q =
    ap (and_then (compare (v % 256) (w % 256))) (by_front n (v / 256) (w / 256) p q)
    ∙ sym (then_then (compare (v % 256) (w % 256)) (cmp_bytes (bytes_of n (v / 256)) (bytes_of n (w / 256))) (cmp_bytes p q))

swapped_is : (v : ℕ) → v < 2 ^ 64 → turn 8 v ≡ swapped v
unfolding turn power turned
swapped_is v h = simp div-div-eq-div-mul (omega arith)

-- the eight bytes from index i on
word_front : (s : List ℕ) (i : ℕ) → Bytes s → i + 8 ≤ length s → bytes_of 8 (word_at s i) ++ drop (i + 8) s ≡ drop i s
word_front s i b h = rw (word_back s b i h, sym (drop-drop 8 i s)) (take-append-drop 8 (drop i s))

module _ (a b : List ℕ) (i : ℕ) (p : Bytes a) (q : Bytes b) (h : i + 8 ≤ length a) (k : i + 8 ≤ length b) where
  by_word :
      cmp_bytes (drop i a) (drop i b)
      ≡ and_then (compare (swapped (word_at a i)) (swapped (word_at b i))) (cmp_bytes (drop (i + 8) a) (drop (i + 8) b))
  by_word =
      rw (sym (word_front a i p h), sym (word_front b i q k))
      (by_front 8 (word_at a i) (word_at b i) (drop (i + 8) a) (drop (i + 8) b)
      ∙ ap (λ (o : Ordering). and_then o (cmp_bytes (drop (i + 8) a) (drop (i + 8) b)))
      (by_turn 8 (word_at a i) (word_at b i)
      ∙ rw (swapped_is (word_at a i) (word_small a p i h), swapped_is (word_at b i) (word_small b q i k))))

  pub words_less : swapped (word_at a i) < swapped (word_at b i) → Less ≡ named (cmp_bytes (drop i a) (drop i b))
  unfolding and_then named
  words_less l = rw by_word (simp (cmp_lt _ _ l))

  pub words_greater : swapped (word_at b i) < swapped (word_at a i) → Greater ≡ named (cmp_bytes (drop i a) (drop i b))
  unfolding and_then named
  words_greater l = rw by_word (simp (cmp_gt _ _ l))

  pub words_apart : (swapped (word_at a i) ≡ swapped (word_at b i) → ⊥) → named (compare (swapped (word_at a i)) (swapped (word_at b i))) ≡ named (cmp_bytes (drop i a) (drop i b))
  unfolding named
  words_apart ne = elim (three (swapped (word_at a i)) (swapped (word_at b i))) [
    | below h ↦ rw (cmp_lt _ _ h) (words_less h)
    | same e ↦ absurd (ne e)
    | above h ↦ rw (cmp_gt _ _ h) (words_greater h)
  ]

  pub words_on : swapped (word_at a i) ≡ swapped (word_at b i) → cmp_bytes (drop (i + 8) a) (drop (i + 8) b) ≡ cmp_bytes (drop i a) (drop i b)
  unfolding and_then
  words_on e = rw by_word (simp (cmp_eq _ _ e))

-- the library's swap of a word's bytes
pub swap_is : (v : ℕ) → v < 2 ^ 64 → swap_bytes w64 v ≡ swapped v
unfolding turned
swap_is v h = omega arith

pub turn_is : (v : ℕ) → v < 2 ^ 64 → swap_bytes w64 v / 256 ≡ turned v
turn_is v h = omega (arith, swap_is v h)
