-- The order that a record names, or the first of its own refusals: the ways through, and what an answer says.
use Rattle.std.specs.Prelude.{ℕ, Bool, true, false, List, ◌≡◌}
use Rattle.std.proofs.Math.Path.{refl}
use Rattle.store.specs.declared.StoreRecord.{StoreRecord}
use Rattle.store.specs.Laws.{apart}
use Rattle.index.specs.declared.Index.{Index}
use Rattle.std.specs.Prelude.{Option, Some, None, Result, Ok, Err}
use Rattle.std.specs.Option.{ok_or}
use Rattle.std.proofs.Common.{ap, ◌∙◌}
use Rattle.index.specs.Order.{index_of}
use Rattle.answer.specs.declared.Refusal.{Refusal}
use Rattle.answer.specs.declared.Refusal.TheVariants.{BadStore, BadOrder}
use Rattle.rules.specs.Lookup.{Finding, clear, found}
use Rattle.rules.specs.Store.{or_else}
use Rattle.rules.specs.Append.{bad_heap}
use Rattle.rules.specs.Calls.{is_unknown, order_for, record_fault}

unfoldable pub ordered : StoreRecord → List ℕ → Bool → Result Index Refusal
ordered r h bad = or_else Err (record_fault r h bad) (Ok (order_for r))

-- what the record is found to be good for: nothing of its own is refused, the heap is in order, and this is the tree's order
pub record Good (r : StoreRecord) (h : List ℕ) (bad : Bool) (i : Index) : Type 0 where
  pub fault : record_fault r h bad ≡ clear
  pub heap : bad_heap r.heap h ≡ false
  pub order : order_for r ≡ i

module _ (r : StoreRecord) (h : List ℕ) where
  pub heap_first : (bad : Bool) → bad_heap r.heap h ≡ true → Err BadStore ≡ ordered r h bad
  unfolding ordered record_fault
  heap_first bad e = rw e

  module _ (good : bad_heap r.heap h ≡ false) where
    pub pages_next : (bad : Bool) → bad ≡ true → Err BadStore ≡ ordered r h bad
    unfolding ordered record_fault
    pages_next bad e = rw (good, e)

    pub order_then : (bad : Bool) → bad ≡ false → index_of r.order ≡ None → Err BadOrder ≡ ordered r h bad
    unfolding ordered record_fault
    order_then bad e n = rw (good, e, n)

    pub order_known_law : (bad : Bool) (i : Index) → bad ≡ false → index_of r.order ≡ Some i → Ok i ≡ ordered r h bad
    unfolding ordered record_fault
    order_known_law bad i e n = rw (good, e, n)

    pub order_named : (bad : Bool) → bad ≡ false → ok_or (index_of r.order) BadOrder ≡ ordered r h bad
    order_named bad e = side (index_of r.order) refl
      where
        side : (o : Option Index) → index_of r.order ≡ o → ok_or (index_of r.order) BadOrder ≡ ordered r h bad
        side None n = ap (λ (o : Option Index). ok_or o BadOrder) n ∙ order_then bad e n
        side (Some i) n = ap (λ (o : Option Index). ok_or o BadOrder) n ∙ order_known_law bad i e n

-- what an answer says, of what was found bad and is bad by the rules
module _ (r : StoreRecord) (h : List ℕ) (bad : Bool) {told : Bool} (is : told ≡ bad) where
  pub told_refused : (f : Refusal) → ordered r h told ≡ Err f → record_fault r h bad ≡ found f
  unfolding ordered
  told_refused f e = side (record_fault r h bad) (rw is at e)
    where
      side : (g : Finding) → or_else Err g (Ok (order_for r)) ≡ Err f → g ≡ found f
      side clear e = absurd (apart (cc))
      side (found g) e = cc

  pub told_order : (i : Index) → ordered r h told ≡ Ok i → Good r h bad i
  unfolding ordered record_fault
  told_order i d = side (bad_heap r.heap h) refl bad refl (is_unknown (index_of r.order)) refl
    where
      e : ordered r h bad ≡ Ok i
      e = rw is at d

      side : (a : Bool) → bad_heap r.heap h ≡ a → (b : Bool) → bad ≡ b → (c : Bool) → is_unknown (index_of r.order) ≡ c → Good r h bad i
      side true p b q c n = let w : ◌≡◌ {A = Result Index Refusal} (Err BadStore) (Ok i) = rw p at e in absurd (apart (cc))
      side false p true q c n = let w : ◌≡◌ {A = Result Index Refusal} (Err BadStore) (Ok i) = rw (p, q) at e in absurd (apart (cc))
      side false p false q true n = let w : ◌≡◌ {A = Result Index Refusal} (Err BadOrder) (Ok i) = rw (p, q, n) at e in absurd (apart (cc))
      side false p false q false n =
          let w : ◌≡◌ {A = Result Index Refusal} (Ok (order_for r)) (Ok i) = rw (p, q, n) at e in
          record { fault = rw (p, q, n); heap = p; order = cc }
