-- What 4 of an insert says of a batch.
use Prim.Native.Nat.{ℕ, suc, Ordering}
use Rattle.std.specs.Prelude.{Bool, ◌⊎◌, ◌≡◌}
use Rattle.std.proofs.Math.Bool.{true, false}
use mathlib.Core.List.{List, [], ◌∷◌}
use Rattle.std.proofs.Math.Logic.{inl}
use Rattle.std.proofs.Common.{inr, ◌∙◌}
use Rattle.std.proofs.Math.Path.{refl}
use Rattle.store.specs.Laws.{apart}
use Rattle.datom.specs.declared.Datom.{Datom}
use Rattle.index.specs.Order.{is_less}
use Rattle.answer.specs.declared.Refusal.TheVariants.{OutOfOrder}
use Rattle.rules.specs.Page.{above, rising}
use Rattle.rules.specs.Lookup.{Finding, clear, found}
use Rattle.rules.specs.Insert.{low_fault, order_fault}

-- it finds nothing where the test holds, and a datom that is out of order where it does not
abbrev pub OutOfOrderIff : Bool → Finding → Type 0
OutOfOrderIff rises f = ((rises ≡ true) × (f ≡ clear)) ⊎ ((rises ≡ false) × (i : ℕ) × (f ≡ found (OutOfOrder i)))

module _ (cmp : Datom → Datom → Ordering) where
  low_tells : (i : ℕ) (p : Datom) (ds : List Datom) → OutOfOrderIff (above cmp p ds) (low_fault cmp i p ds)
  unfolding low_fault above
  low_tells i p [] = inl (refl, refl)
  low_tells i p (d ∷ ds) = side (is_less (cmp p d)) refl (low_tells (suc i) d ds)
    where
      side :
          (b : Bool) → is_less (cmp p d) ≡ b → OutOfOrderIff (above cmp d ds) (low_fault cmp (suc i) d ds) →
          OutOfOrderIff (above cmp p (d ∷ ds)) (low_fault cmp i p (d ∷ ds))
      side true e w = rw e w
      side false e w = rw e (inr (refl, i, refl))

  pub order_tells : (ds : List Datom) → OutOfOrderIff (rising cmp ds) (order_fault cmp ds)
  unfolding order_fault rising
  order_tells [] = inl (refl, refl)
  order_tells (d ∷ ds) = low_tells 1 d ds

  -- a batch in which it finds nothing rises
  pub order_rises : (ds : List Datom) → clear ≡ order_fault cmp ds → rising cmp ds ≡ true
  order_rises ds e = elim (order_tells ds) [ inl w ↦ w.0 | inr w ↦ absurd (apart (let k : clear ≡ found (OutOfOrder w.1) = e ∙ w.2 in cc)) ]
