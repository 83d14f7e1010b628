-- The search for a datom that is equal to an earlier one.
use Prim.Native.Nat.{ℕ, zero, suc, ◌+◌, ◌-◌, ◌*◌, ◌<◌, ◌≤◌, Ordering}
use Rattle.std.proofs.Common.{add-one, arith}
use Rattle.std.specs.Prelude.{true, false, List, [], ◌∷◌, ◌≡◌, refl, drop}
use Rattle.store.specs.Cells.{cells_end}
use Rattle.datom.specs.declared.Datom.{Datom}
use Rattle.datom.specs.Datom.{datom_at, datom_of, datoms_of}
use Rattle.index.specs.Order.{is_same}
use Rattle.answer.specs.declared.Refusal.TheVariants.{OutOfOrder}
use Rattle.rules.specs.Lookup.{clear, found}
use Rattle.rules.specs.Insert.{has_same, twin_fault}

-- the first i datoms, the last of them first: what the rule has seen when it comes to datom i
unfoldable pub earlier : ℕ → List ℕ → List Datom
earlier zero b = []
earlier (suc i) b = datom_at b (32 * i) ∷ earlier i b

pub earlier_at : (j : ℕ) (b : List ℕ) → 0 < j → earlier j b ≡ datom_at b (32 * (j - 1)) ∷ earlier (j - 1) b
unfolding earlier
earlier_at zero b h = absurd (omega arith)
earlier_at (suc j) b h = let e : suc j - 1 ≡ j = omega arith in rw (e, earlier)

module _ (cmp : Datom → Datom → Ordering) (d : Datom) where
  pub any_on : {l : List Datom} {x : Datom} {r : List Datom} → l ≡ x ∷ r → is_same (cmp x d) ≡ false → has_same cmp d l ≡ has_same cmp d r
  unfolding has_same
  any_on e h = rw (e, has_same, h)

  pub any_stop : {l : List Datom} {x : Datom} {r : List Datom} → l ≡ x ∷ r → is_same (cmp x d) ≡ true → has_same cmp d l ≡ true
  unfolding has_same
  any_stop e h = rw (e, has_same, h)

  pub any_end : (j : ℕ) (b : List ℕ) → j ≡ 0 → has_same cmp d (earlier j b) ≡ false
  unfolding has_same earlier
  any_end j b e = rw e

module _ (cmp : Datom → Datom → Ordering) (i : ℕ) (b : List ℕ) where
  pub twin_on :
      {l r : List Datom} → l ≡ datom_at b (32 * i) ∷ r → has_same cmp (datom_at b (32 * i)) (earlier i b) ≡ false →
      twin_fault cmp i (earlier i b) l ≡ twin_fault cmp (i + 1) (earlier (i + 1) b) r
  unfolding twin_fault earlier
  twin_on e h = rw (e, twin_fault, h, add-one)

  pub twin_stop :
      {l r : List Datom} → l ≡ datom_at b (32 * i) ∷ r → has_same cmp (datom_at b (32 * i)) (earlier i b) ≡ true →
      twin_fault cmp i (earlier i b) l ≡ found (OutOfOrder i)
  unfolding twin_fault
  twin_stop e h = rw (e, twin_fault, h)

  pub twin_end : (n : ℕ) → n ≤ i → twin_fault cmp i (earlier i b) (drop i (datoms_of n b)) ≡ clear
  unfolding twin_fault
  twin_end n h = rw (cells_end datom_of 32 n i b h)

pub twin_start : (cmp : Datom → Datom → Ordering) (ds : List Datom) (b : List ℕ) → twin_fault cmp 0 (earlier 0 b) ds ≡ twin_fault cmp 0 [] ds
unfolding earlier
twin_start cmp ds b = refl
