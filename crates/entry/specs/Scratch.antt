-- The scratch is enough: for the nodes of eight levels, and the batch that is sent into the last.
use Rattle.std.specs.Prelude.{ℕ, ◌+◌, ◌*◌, ◌≤◌, List, ◌≡◌, refl}
use Rattle.std.proofs.Common.{add-zero, mul-le-mul_right, arith}
use Rattle.store.specs.declared.Extent.{Extent}
use Rattle.store.specs.Size.{most_datoms, room_for, scratch_need}
use Rattle.memory_store.specs.FetchLaws.{InOrder, in_order}
use Rattle.htree.specs.Told.{Ready}
use Rattle.entry.specs.Checks.{Roomy}

pub room_is : (c : ℕ) → 8 * c + 128 ≡ room_for c
unfolding room_for
room_is c = refl

pub need_is : (c m : ℕ) → m ≡ room_for c → 8 * (40 * m + 8) + 32 * m ≡ scratch_need c
unfolding scratch_need
need_is c m e = rw e

module _ {x : Extent} {s : List ℕ} {c n L : ℕ} (R : Roomy x s c n L) where
  pub roomy_known : InOrder x s
  roomy_known = in_order x s R.good

  pub roomy_few : c ≤ most_datoms
  roomy_few = omega (arith, roomy_known.known.few, R.cap)

  -- before the first page
  pub roomy_ready : Ready x s c 0
  roomy_ready = record { good = R.good; cap = R.cap; room = rw add-zero roomy_known.holds }

  module _ (m : ℕ) (e : m ≡ room_for c) where
    pub roomy_small : (n ≤ m) × (m ≤ 8 * most_datoms + 128)
    roomy_small = (omega (arith, room_is c, R.few), omega (arith, room_is c, roomy_few))

    pub roomy_area : 40 * m + 8 + 32 * m ≤ L
    roomy_area = omega (arith, need_is c m e, R.scratch)

    -- a root of level l
    pub roomy_node : (l : ℕ) → l ≤ 7 → (l + 1) * c + n ≤ m
    roomy_node l h = let k : (l + 1) * c ≤ 8 * c = mul-le-mul_right c (omega arith) in omega (arith, room_is c, R.few)

    pub roomy_areas : (l : ℕ) → l ≤ 7 → (l + 1) * (40 * m + 8) + 32 * m ≤ L
    roomy_areas l h =
        let k : (l + 1) * (40 * m + 8) ≤ 8 * (40 * m + 8) = mul-le-mul_right (40 * m + 8) (omega arith) in omega (arith, need_is c m e, R.scratch)
