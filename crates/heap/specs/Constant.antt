-- Constants on the heap: where one lies, what makes it valid, and what it holds. But for `bad_heap`, a heap here is the bytes in use.
use Rattle.std.specs.Prelude.{ℕ, ◌+◌, ◌-◌, ◌*◌, ◌/◌, ◌%◌, ◌^◌, Bool, true, ◌&&◌, ◌||◌, not, cond, List, [], ◌∷◌, leb, ltb, eqb, length, take, drop}
use Rattle.store.specs.Words.{word_at}

-- "1 also when the heap length passes its slice or is no multiple of 8": n bytes of the slice h are in use
unfoldable pub bad_heap : ℕ → List ℕ → Bool
bad_heap n h = ltb (length h) n || not (eqb (n % 8) 0)

-- "zeros to a multiple of 8"
unfoldable pub up_to8 : ℕ → ℕ
up_to8 n = (n + 7) / 8 * 8

unfoldable pub all_zero : List ℕ → Bool
all_zero [] = true
all_zero (b ∷ bs) = eqb b 0 && all_zero bs

-- "an integer as one word, a byte string as its length word, its bytes": the word at an offset is there, and so are the bytes behind it
unfoldable pub word_there : List ℕ → ℕ → Bool
word_there h o = leb (o + 8) (length h)

unfoldable pub bytes_there : List ℕ → ℕ → Bool
bytes_there h o = word_there h o && leb (o + 8 + word_at h o) (length h)

-- what a constant holds; 0, and no bytes, where it is not all there
unfoldable pub integer_at : List ℕ → ℕ → ℕ
integer_at h o = cond (word_there h o) (word_at h o) 0

unfoldable pub bytes_at : List ℕ → ℕ → List ℕ
bytes_at h o = cond (bytes_there h o) (take (word_at h o) (drop (o + 8) h)) []

-- "Offsets must be multiples of 8 .. Heap integers are 2^62 or more"
unfoldable pub valid_int : List ℕ → ℕ → Bool
valid_int h o = eqb (o % 8) 0 && word_there h o && leb (2 ^ 62) (word_at h o)

-- ".. and zeros to a multiple of 8": behind n bytes that end at byte `at`, and these zeros lie below the heap length too
unfoldable pub padded : List ℕ → ℕ → ℕ → Bool
padded h at n = leb (at + (up_to8 n - n)) (length h) && all_zero (take (up_to8 n - n) (drop at h))

-- "heap strings 8 bytes or more"
unfoldable pub valid_str : List ℕ → ℕ → Bool
valid_str h o = eqb (o % 8) 0 && bytes_there h o && leb 8 (word_at h o) && padded h (o + 8 + word_at h o) (word_at h o)
