-- Where a test first fails along a list, and along a rising one.
use Rattle.std.specs.Prelude.{◌≡◌, ℕ, zero, suc, ◌*◌, ◌<◌, ◌≤◌, Bool, true, false, List, [], ◌∷◌, length, ◌≢◌, slice_index_or}
use Prim.Native.Nat.{zero-le, suc-le-suc, Ordering}
use Rattle.std.proofs.Math.Decide.{dec_le}
use Rattle.std.proofs.Common.{arith}
use Rattle.std.proofs.Math.Path.{refl}
use Rattle.store.specs.Laws.{apart, cells_length}
use Rattle.datom.specs.declared.Datom.{Datom}
use Rattle.datom.specs.Datom.{datom_at, datom_of, datoms_of}
use Rattle.datom.specs.Laws.{datoms_at}
use Rattle.index.specs.Order.{DatomOrd, is_less}
use Rattle.index.proofs.Laws.{Preorder}
use Rattle.rules.specs.Page.{rising}
use Rattle.rules.specs.Node.{rank_by, below, rank}
use Rattle.rules.specs.Lists.{in_get_d, Rising, less, rising_in, rank_most}

module _ (p : Datom → Bool) where
  -- it fails no later than where it fails
  pub rank_upto : (xs : List Datom) (i : ℕ) (d : Datom) → i < length xs → p (slice_index_or xs i d) ≡ false → rank_by p xs ≤ i
  unfolding rank_by
  rank_upto [] i d h e = zero-le
  rank_upto (x ∷ xs) zero d h e = rw (e, rank_by) zero-le
  rank_upto (x ∷ xs) (suc i) d h e = side (p x) refl (rank_upto xs i d (omega arith) e)
    where
      side : (b : Bool) → p x ≡ b → rank_by p xs ≤ i → rank_by p (x ∷ xs) ≤ suc i
      side true q k = rw (q, rank_by) (suc-le-suc k)
      side false q k = rw (q, rank_by) zero-le

  -- and there it does fail
  pub rank_fails : (xs : List Datom) (d : Datom) → rank_by p xs < length xs → p (slice_index_or xs (rank_by p xs) d) ≡ false
  unfolding rank_by
  rank_fails [] d h = absurd (omega arith)
  rank_fails (x ∷ xs) d h = side (p x) refl (rank_fails xs d)
    where
      side :
          (b : Bool) → p x ≡ b → (rank_by p xs < length xs → p (slice_index_or xs (rank_by p xs) d) ≡ false) →
          p (slice_index_or (x ∷ xs) (rank_by p (x ∷ xs)) d) ≡ false
      side true q k = let z : suc (rank_by p xs) < suc (length xs) = rw (q, rank_by) at h in rw (q, rank_by) (k (omega arith))
      side false q k = rw (q, rank_by) q

module _ (cmp : Datom → Datom → Ordering) (L : Preorder cmp) where
  -- an earlier datom of a rising list is below a later one
  rising_at : (xs : List Datom) → Rising cmp xs → (i j : ℕ) (d : Datom) → i < j → j < length xs → cmp (slice_index_or xs i d) (slice_index_or xs j d) ≡ Ordering.lt
  rising_at [] r i j d a b = absurd (omega arith)
  rising_at (x ∷ xs) r zero zero d a b = absurd (omega arith)
  rising_at (x ∷ xs) r zero (suc j) d a b = r.0 (slice_index_or xs j d) (in_get_d xs j d (omega arith))
  rising_at (x ∷ xs) r (suc i) zero d a b = absurd (omega arith)
  rising_at (x ∷ xs) r (suc i) (suc j) d a b = rising_at xs r.1 i j d (omega arith) (omega arith)

  -- where a datom is below d, all before it are, so the first that is not comes later
  pub rank_past :
      (d : Datom) (xs : List Datom) (i : ℕ) (z : Datom) → rising cmp xs ≡ true → i < length xs → is_less (cmp (slice_index_or xs i z) d) ≡ true → i < rank cmp d xs
  unfolding is_less
  rank_past d xs i z r h e = elim (dec_le (rank cmp d xs) i) [
    | no a ↦ omega (arith, a)
    | yes a ↦ absurd (clash (rank_fails (below cmp d) xs z (omega (arith, a))) (before (rank cmp d xs) a))
  ]
    where
      clash : {b : Bool} → b ≡ false → b ≢ true
      clash u v = apart (cc)

      before : (j : ℕ) → j ≤ i → is_less (cmp (slice_index_or xs j z) d) ≡ true
      before j k = elim (dec_le i j) [
        | yes a ↦ let same : j ≡ i = omega (arith, a) in rw same e
        | no a ↦
            rw (L.trans (slice_index_or xs j z) (slice_index_or xs i z) d (rising_at xs (rising_in cmp L xs r) j i z (omega (arith, a)) h) (less cmp (slice_index_or xs i z) d e))
      ]

-- the two ways of a halving, at index i of k datoms
module _ (t : DatomOrd) (k : ℕ) (s : List ℕ) (d : Datom) (i : ℕ) (h : i < k) where
  len : i < length (datoms_of k s)
  len = omega (arith, cells_length datom_of 32 k s)

  pub seek_right :
      Preorder t.cmp → rising t.cmp (datoms_of k s) ≡ true → is_less (t.cmp (datom_at s (32 * i)) d) ≡ true → i < rank t.cmp d (datoms_of k s)
  seek_right L r e = rank_past t.cmp L d (datoms_of k s) i d r len (rw (datoms_at k i s d h) e)

  pub seek_left : is_less (t.cmp (datom_at s (32 * i)) d) ≡ false → rank t.cmp d (datoms_of k s) ≤ i
  seek_left e = rank_upto (below t.cmp d) (datoms_of k s) i d len (rw (datoms_at k i s d h) e)

pub rank_within : (t : DatomOrd) (k : ℕ) (s : List ℕ) (d : Datom) → rank t.cmp d (datoms_of k s) ≤ k
rank_within t k s d = omega (arith, rank_most (below t.cmp d) (datoms_of k s), cells_length datom_of 32 k s)
