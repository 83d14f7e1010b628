-- What a C program reads in the bytes that a call leaves: the four words of an answer.
use Rattle.std.specs.Prelude.{ℕ, zero, suc, ◌+◌, ◌*◌, ◌^◌, ◌<◌, List, [], ◌∷◌, ◌≡◌, length, get_or}
use Rattle.std.proofs.Common.{mul-suc, arith, take_at}
use Rattle.std.proofs.Math.Seq.{drop-append-add}
use Rattle.store.specs.Words.{bytes_of, word_at, spread}
use Rattle.store.specs.Laws.{bytes_length, little_bytes}
use Rattle.answer.specs.Table.{Words}
use Rattle.rules.specs.Entry.{word_bytes}

-- word i of words that stand one after the other
word_in : (xs : List ℕ) (i : ℕ) → i < length xs → get_or xs i 0 < 2 ^ 64 → word_at (spread (bytes_of 8) xs) (8 * i) ≡ get_or xs i 0
unfolding word_at spread
word_in [] i h s = absurd (omega arith)
word_in (x ∷ xs) zero h s = rw (take_at (bytes_of 8 x) (spread (bytes_of 8) xs) 8 (bytes_length 8 x)) (little_bytes 8 x s)
word_in (x ∷ xs) (suc i) h s =
    let e : 8 * suc i ≡ length (bytes_of 8 x) + 8 * i = omega (arith, mul-suc 8 i, bytes_length 8 x) in
    rw (e, drop-append-add (bytes_of 8 x) (spread (bytes_of 8) xs) (8 * i)) (word_in xs i (omega arith) s)

module _ (w : Words) where
  pub root_word : w.root < 2 ^ 64 → word_at (word_bytes w) 8 ≡ w.root
  unfolding word_bytes
  root_word h = word_in _ 1 (omega arith) h

  pub pages_word : w.pages < 2 ^ 64 → word_at (word_bytes w) 16 ≡ w.pages
  unfolding word_bytes
  pages_word h = word_in _ 2 (omega arith) h

  pub detail_word : w.detail < 2 ^ 64 → word_at (word_bytes w) 24 ≡ w.detail
  unfolding word_bytes
  detail_word h = word_in _ 3 (omega arith) h
