-- Which datoms an order lets be given, be stored, or be a bound.
use Rattle.std.specs.Prelude.{ℕ, ◌^◌, ◌<◌, true, List, ◌≡◌}
use Rattle.std.proofs.Math.Path.{refl, sym}
use Rattle.datom.specs.declared.Datom.{Datom}
use Rattle.datom.specs.Value.{bound_value}
use Rattle.datom.specs.Datom.{formed_datom, stored_datom, bound_datom}
use Rattle.datom.specs.Stored.{stored_int, stored_formed}
use Rattle.index.specs.declared.Index.{Index}
use Rattle.index.specs.Order.{order_in}

module _ (i : Index) (h : List ℕ) (d : Datom) where
  pub order_formed : (order_in i h).formed d ≡ formed_datom d
  unfolding order_in
  order_formed = refl

  pub order_stored : (order_in i h).stored d ≡ stored_datom h d
  unfolding order_in
  order_stored = refl

  pub order_bound : (order_in i h).bound d ≡ bound_datom h d
  unfolding order_in
  order_bound = refl

  -- an inline integer may be stored, whatever the other words are and the heap holds
  pub order_plain : d.value.0 < 2 ^ 62 → (order_in i h).stored d ≡ true
  unfolding order_in stored_datom
  order_plain p = sym (stored_int d.value h p)

  -- what may be stored may be a bound, and may be given
  pub order_may : (order_in i h).stored d ≡ true → (order_in i h).bound d ≡ true
  unfolding order_in stored_datom bound_datom bound_value
  order_may p = rw p

  pub stored_is_formed : (order_in i h).stored d ≡ true → (order_in i h).formed d ≡ true
  unfolding order_in stored_datom formed_datom
  stored_is_formed p = stored_formed d.value h p
