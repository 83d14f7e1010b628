-- The base: its four page sizes. Rests on Demand and on the order's laws.
use Rattle.std.specs.Prelude.{ℕ, true, false, List, ◌⊎◌, ◌≡◌}
use Rattle.std.proofs.Common.{inl, inr}
use Rattle.store.specs.Size.{sizes}
use Rattle.datom.specs.declared.Datom.{Datom}
use Rattle.datom.specs.Content.{names}
use Rattle.index.proofs.Laws.{Alike, order_same, order_very_same}
use Rattle.index.specs.Form.{order_may}
use Rattle.rules.specs.Calls.{used_heap, order_for}
use Rattle.rules.specs.Insert.{sort}
use Rattle.rules.specs.Lists.{In}
use Rattle.rules.specs.KnownSizes.{size_known}
use Rattle.history.specs.Statement.{Known, Moment, at, History, gathered, HandsOut, Shared, Demand3}
use Rattle.history.specs.More.{Beyond3, Resending, StaysHeld, AcceptedFormed}
use Rattle.history.specs.Order.{clash}
use Rattle.history.specs.Sort.{within}
use Rattle.history.proofs.Demand.{demand, hands_out, beyond}
use Rattle.history.proofs.Again.{resending, stays_held, accepted_formed}

pub base : (size : ℕ) → In size sizes → Demand3 size
base size i = demand size (size_known size i)

-- the list that it hands out
pub base_hands_out :
    (size : ℕ) → In size sizes → (m : Moment) → History size m → (k : Known) → In k m.roots → (lo hi : Datom) →
    (at m).bound lo ≡ true → (at m).bound hi ≡ true →
    HandsOut m k lo hi (within (at m).cmp lo hi (sort (at m).cmp (gathered k.batches)))
base_hands_out size i = hands_out size (size_known size i)

pub base_beyond : (size : ℕ) → In size sizes → Beyond3 size
base_beyond size i = beyond size (size_known size i)

pub base_resending : (size : ℕ) → In size sizes → Resending size
base_resending size i = resending size (size_known size i)

pub base_stays_held : (size : ℕ) → In size sizes → StaysHeld size
base_stays_held size i = stays_held size (size_known size i)

pub base_accepted : (size : ℕ) → In size sizes → AcceptedFormed size
base_accepted size i = accepted_formed size (size_known size i)

-- "Order is by content": a datom that is shared has the entity, attribute, last word and content of one that led to the root
pub shared_alike :
    (m : Moment) (u : List Datom) (d : Datom) → Shared (at m).cmp u d → (y : Datom) × In y u × Alike (used_heap m.recorded m.heap) y d
shared_alike m u d (y, i, e) = (y, i, order_same (order_for m.recorded) (used_heap m.recorded m.heap) y d e)

module _ (m : Moment) (u : List Datom) (d : Datom) (a : (y : Datom) → In y u → (at m).stored y ≡ true) (b : (at m).stored d ≡ true) where
  -- and it is the very same, unless both values name a constant
  pub shared_very_same :
      Shared (at m).cmp u d → In d u ⊎ ((y : Datom) × In y u × (names y.value ≡ true) × (names d.value ≡ true))
  shared_very_same (y, i, e) =
      let h = used_heap m.recorded m.heap in
      let o = order_for m.recorded in
      elim (order_very_same o h y d (order_may o h y (a y i)) (order_may o h d b) e) [ inl z ↦ inl (rw (← z) i) | inr w ↦ inr (y, i, w.0, w.1) ]

  -- so where its value names none, "shares a datom" is meant literally
  pub shared_same : names d.value ≡ false → Shared (at m).cmp u d → In d u
  shared_same n s = elim (shared_very_same s) [ inl i ↦ i | inr w ↦ absurd (clash n w.3) ]
