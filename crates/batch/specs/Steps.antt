-- One step of each check along the batch, as its loop takes it.
use Prim.Native.Nat.{ℕ, ◌+◌, ◌<◌, ◌≤◌, Ordering}
use Rattle.std.proofs.Common.{add-one, ap}
use Rattle.std.specs.Prelude.{Bool, true, false, Option, None, Some, List, ◌∷◌, ◌≡◌}
use Rattle.std.proofs.Math.Path.{refl, sym}
use Rattle.std.proofs.Math.ListN.{drop}
use Rattle.store.specs.Words.{cells}
use Rattle.store.specs.Cells.{cells_end}
use Rattle.datom.specs.declared.Datom.{Datom}
use Rattle.datom.specs.Datom.{datom_at, datom_of, datoms_of}
use Rattle.datom.specs.Laws.{datoms_from}
use Rattle.index.specs.Order.{is_less}
use Rattle.answer.specs.declared.Refusal.{Refusal}
use Rattle.answer.specs.declared.Refusal.TheVariants.{OutOfOrder}
use Rattle.rules.specs.Lookup.{Finding, clear, found}
use Rattle.rules.specs.Insert.{form_fault, low_fault, order_fault}

abbrev D : Type 0
D = List Datom

-- a test of the code answers as the rule's does
abbrev pub Tells : (Datom → Bool → Type 0) → (Datom → Bool) → Type 0
Tells answers ok = (d : Datom) (r : Bool) → answers d r → r ≡ ok d

-- what the index of the first datom that fails a test is refused with
abbrev pub failing_at : (ℕ → Refusal) → Option ℕ → Finding
failing_at bad None = clear
failing_at bad (Some i) = found (bad i)

-- at the head of a rest, and past the end
module _ (bad : ℕ → Refusal) (ok : Datom → Bool) (i : ℕ) where
  pub form_on : {l : D} {x : Datom} {r : D} → l ≡ x ∷ r → ok x ≡ true → form_fault bad ok i l ≡ form_fault bad ok (i + 1) r
  unfolding form_fault
  form_on e h = rw (e, form_fault, h, add-one)

  pub form_stop : {l : D} {x : Datom} {r : D} → l ≡ x ∷ r → ok x ≡ false → form_fault bad ok i l ≡ found (bad i)
  unfolding form_fault
  form_stop e h = rw (e, form_fault, h)

  pub form_end : (n : ℕ) (b : List ℕ) → n ≤ i → form_fault bad ok i (drop i (datoms_of n b)) ≡ clear
  unfolding form_fault
  form_end n b h = rw (cells_end datom_of 32 n i b h)

module _ (cmp : Datom → Datom → Ordering) where
  pub low_on : {l : D} {x : Datom} {r : D} (i : ℕ) (p : Datom) → l ≡ x ∷ r → is_less (cmp p x) ≡ true → low_fault cmp i p l ≡ low_fault cmp (i + 1) x r
  unfolding low_fault
  low_on i p e h = rw (e, low_fault, h, add-one)

  pub low_stop : {l : D} {x : Datom} {r : D} (i : ℕ) (p : Datom) → l ≡ x ∷ r → is_less (cmp p x) ≡ false → low_fault cmp i p l ≡ found (OutOfOrder i)
  unfolding low_fault
  low_stop i p e h = rw (e, low_fault, h)

  pub low_end : (i : ℕ) (p : Datom) (n : ℕ) (b : List ℕ) → n ≤ i → low_fault cmp i p (drop i (datoms_of n b)) ≡ clear
  unfolding low_fault
  low_end i p n b h = rw (cells_end datom_of 32 n i b h)

  pub order_none : (b : List ℕ) → clear ≡ order_fault cmp (datoms_of 0 b)
  unfolding order_fault cells
  order_none b = refl

  pub order_start : (n : ℕ) (b : List ℕ) → 0 < n → low_fault cmp 1 (datom_at b 0) (drop 1 (datoms_of n b)) ≡ order_fault cmp (datoms_of n b)
  unfolding order_fault
  order_start n b h =
      let e : datoms_of n b ≡ datom_at b 0 ∷ drop 1 (datoms_of n b) = datoms_from n 0 b h in
      sym (ap (order_fault cmp) e)
