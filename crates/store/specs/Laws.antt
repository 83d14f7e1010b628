-- Words and their bytes, both ways round; things laid out one after the other, and read back.
use Rattle.std.specs.Prelude.{ℕ, zero, suc, ◌+◌, ◌*◌, ◌/◌, ◌%◌, ◌^◌, ◌≤◌, ◌<◌, Bool, true, false, ◌&&◌, ◌≡◌, eqb, ltb, leb, length, take, drop, get_or}
use Rattle.std.proofs.Common.{zero-le, suc-le-suc, pow-suc, suc-add, mul_assoc, mul_comm, ap, eqb-true, ltb-true, leb-true, length-append, length-take, length-drop, get_or-take, get_or-drop, length-take-le}
use Rattle.std.proofs.Math.Nat.{mod-add-div, mul-suc, add-mul-mod_self_left}
use Rattle.std.proofs.Math.Decide.{dec_le}
use native.Mathlib.Omega.{arith}
use Rattle.std.proofs.Math.Path.{refl}
use mathlib.Core.List.{List, [], ◌∷◌, ◌++◌, append_assoc}
use Rattle.std.proofs.lemmas.List.{length-replicate}
use Rattle.std.proofs.Math.ListN.{get_or-eq_default}
use Rattle.std.proofs.Math.Seq.{take_at, drop_at}
use Rattle.store.specs.declared.PageId.{PageId}
use Rattle.store.specs.Words.{little, bytes_of, word_at, cells, spread, pad}
use Rattle.store.specs.Page.{page_of, page_bytes}
use Rattle.store.specs.Size.{PageSize, page_sizes, most_size, most_datoms, capacity_in, capacity}

-- what congruence closure is asked for where two constructors meet
pub apart : ◌≡◌ {A = ℕ} 0 1 → ⊥
apart e = omega arith

pub both : (a b : Bool) → (a && b) ≡ true → (a ≡ true) × (b ≡ true)
both true b e = (refl, e)
both false b e = absurd (apart (cc))

pub bytes_length : (n v : ℕ) → length (bytes_of n v) ≡ n
unfolding bytes_of
bytes_length zero v = refl
bytes_length (suc n) v = ap suc (bytes_length n (v / 256))

-- a number that n bytes hold comes back from them
pub little_bytes : (n v : ℕ) → v < 256 ^ n → little (bytes_of n v) ≡ v
unfolding little bytes_of
little_bytes zero v h = omega arith
little_bytes (suc n) v h =
    let h₁ : v < 256 ^ n * 256 = rw pow-suc at h in
    rw (little_bytes n (v / 256) (omega arith)) (mod-add-div v 256)

-- bytes come back from the number that they stand for
pub bytes_little : (s : List ℕ) → ((i : ℕ) → get_or s i 0 < 256) → bytes_of (length s) (little s) ≡ s
unfolding little bytes_of
bytes_little [] h = refl
bytes_little (b ∷ s) h =
    let k : b < 256 = h 0 in
    let low : (b + 256 * little s) % 256 ≡ b = omega arith in
    let high : (b + 256 * little s) / 256 ≡ little s = omega arith in
    rw (low, high, bytes_little s (λ i. h (suc i)))

pub little_small : (s : List ℕ) → ((i : ℕ) → get_or s i 0 < 256) → little s < 256 ^ length s
unfolding little
little_small [] h = suc-le-suc zero-le
little_small (b ∷ s) h =
    let k : b < 256 = h 0 in
    rw pow-suc (omega (arith, little_small s (λ i. h (suc i))))

-- the word at an offset, and its bytes
module _ (s : List ℕ) (bytes : (i : ℕ) → get_or s i 0 < 256) (at : ℕ) (fits : at + 8 ≤ length s) where
  pub part_bytes : (i : ℕ) → get_or (take 8 (drop at s)) i 0 < 256
  part_bytes i = elim (dec_le 8 i) [
    | yes a ↦ rw (get_or-eq_default (take 8 (drop at s)) 0 {n = i} (omega (arith, a, length-take 8 (drop at s)))) (suc-le-suc zero-le)
    | no a ↦ rw (get_or-take 8 (drop at s) i 0 (omega (arith, a)), get_or-drop at s i 0) (bytes (at + i))
  ]

  part_length : length (take 8 (drop at s)) ≡ 8
  part_length = length-take-le 8 (drop at s) (simp length-drop (omega arith))

  pub word_back : bytes_of 8 (word_at s at) ≡ take 8 (drop at s)
  unfolding word_at
  word_back = rw part_length at (bytes_little (take 8 (drop at s)) part_bytes)

  pub word_small : word_at s at < 2 ^ 64
  unfolding word_at
  word_small = rw part_length at (little_small (take 8 (drop at s)) part_bytes)

-- the n lowest bytes do not see what lies above them
pub low_bytes : (n k v q : ℕ) → bytes_of n (v + 256 ^ (n + k) * q) ≡ bytes_of n v
unfolding bytes_of
low_bytes zero k v q = refl
low_bytes (suc n) k v q =
    let e : 256 ^ (suc n + k) * q ≡ 256 * (256 ^ (n + k) * q) =
    rw (suc-add, pow-suc, mul_comm (256 ^ (n + k)) 256) (mul_assoc 256 (256 ^ (n + k)) q) in
    let low : (v + 256 ^ (suc n + k) * q) % 256 ≡ v % 256 = rw e (add-mul-mod_self_left v 256 (256 ^ (n + k) * q)) in
    let high : (v + 256 ^ (suc n + k) * q) / 256 ≡ v / 256 + 256 ^ (n + k) * q = rw e (omega arith) in
    rw (low, high, low_bytes n k (v / 256) q)

pub pad_length : (n : ℕ) (s : List ℕ) → length s ≤ n → length (pad n s) ≡ n
unfolding pad
pad_length n s h = simp (length-append, length-replicate) (omega arith)

pub cells_length : {A : Type 0} (f : List ℕ → A) (w n : ℕ) (s : List ℕ) → length (cells f w n s) ≡ n
unfolding cells
cells_length f w zero s = refl
cells_length f w (suc n) s = ap suc (cells_length f w n (drop w s))

-- things of w bytes each, laid out and read back
module _ {A : Type 0} (g : A → List ℕ) (w : ℕ) (wide : (x : A) → length (g x) ≡ w) where
  pub spread_length : (xs : List A) → length (spread g xs) ≡ w * length xs
  unfolding spread
  spread_length [] = omega arith
  spread_length (x ∷ xs) = simp (length-append, mul-suc, wide x, spread_length xs) (omega arith)

  pub cells_spread :
      (f : List ℕ → A) (xs : List A) (rest : List ℕ) → ((i : ℕ) (d : A) → i < length xs → f (g (get_or xs i d)) ≡ get_or xs i d) →
      cells f w (length xs) (spread g xs ++ rest) ≡ xs
  unfolding cells spread
  cells_spread f [] rest h = refl
  cells_spread f (x ∷ xs) rest h =
      rw (
        append_assoc (g x) (spread g xs) rest,
        take_at (g x) (spread g xs ++ rest) w (wide x),
        drop_at (g x) (spread g xs ++ rest) w (wide x),
        h 0 x (suc-le-suc zero-le),
        cells_spread f xs rest (λ i d k. h (suc i) d (suc-le-suc k)),
      )

pub page_length : (p : PageId) → length (page_bytes p) ≡ 8
unfolding page_bytes
page_length p = bytes_length 8 p.0

pub page_back : (p : PageId) → p.0 < 2 ^ 64 → page_of (page_bytes p) ≡ p
unfolding page_of page_bytes
page_back p h = ap (λ (n : ℕ). record { 0 = n }) (little_bytes 8 p.0 h)

-- what a row of the table must keep: a page holds a datom, and all of C datoms with their children and the header
pub record Fits (size c : ℕ) : Type 0 where
  pub some : 0 < c
  pub fits : 40 * c + 10 ≤ size
  pub most : size ≤ most_size
  pub few : c ≤ most_datoms

-- the same as a test, of a row and of all of them
abbrev fitting : PageSize → Bool
fitting p = ltb 0 p.capacity && (leb (40 * p.capacity + 10) p.size && (leb p.size most_size && leb p.capacity most_datoms))

abbrev all_fitting : List PageSize → Bool
all_fitting [] = true
all_fitting (p ∷ ps) = fitting p && all_fitting ps

row_fits : (p : PageSize) → fitting p ≡ true → Fits p.size p.capacity
row_fits p t =
    let u = both (ltb 0 p.capacity) _ t in
    let v = both (leb (40 * p.capacity + 10) p.size) _ u.1 in
    let w = both (leb p.size most_size) (leb p.capacity most_datoms) v.1 in
    record {
      some = ltb-true 0 p.capacity u.0;
      fits = leb-true (40 * p.capacity + 10) p.size v.0;
      most = leb-true p.size most_size w.0;
      few = leb-true p.capacity most_datoms w.1;
    }

-- so a size that has a row keeps it, whatever the rows are
table_fits : (ps : List PageSize) → all_fitting ps ≡ true → (size : ℕ) → (capacity_in ps size ≡ 0 → ⊥) → Fits size (capacity_in ps size)
unfolding capacity_in
table_fits [] t size h = absurd (h refl)
table_fits (p ∷ ps) t size h = side (eqb size p.size) refl (table_fits ps (both (fitting p) (all_fitting ps) t).1 size)
  where
    side :
        (a : Bool) → eqb size p.size ≡ a → ((capacity_in ps size ≡ 0 → ⊥) → Fits size (capacity_in ps size)) → Fits size (capacity_in (p ∷ ps) size)
    side true e rest = rw (e, eqb-true size p.size e) (row_fits p (both (fitting p) (all_fitting ps) t).0)
    side false e rest = rw e (rest (λ z. h (rw e z)))

-- what is known of a page size that is known
abbrev pub Known : ℕ → Type 0
Known size = Fits size (capacity size)

pub known_size : (size : ℕ) → (capacity size ≡ 0 → ⊥) → Known size
unfolding capacity
known_size = table_fits page_sizes refl

-- "Pages of 8192 bytes. .. Capacity is 204, children start at 6528, the header at 8168.": at 32C and at 40C+8
wide_page : (capacity 8192 ≡ 204) × ((32 * capacity 8192 ≡ 6528) × (40 * capacity 8192 + 8 ≡ 8168))
unfolding capacity capacity_in
wide_page = (refl, (refl, refl))
