-- A batch that is sent again. Rests on Demand.
use Rattle.answer.specs.Answers.{done_with}
use Prim.Native.Nat.{ℕ, ◌/◌, ◌%◌, ◌<◌, Ordering}
use Rattle.std.proofs.Common.{arith, inl, inr, sym, ◌∙◌, ap}
use Rattle.std.specs.Prelude.{false, List, [], ◌∷◌, ◌≡◌, refl, length}
use Rattle.store.specs.declared.PageId.{PageId}
use Rattle.store.specs.declared.Extent.{Extent}
use Rattle.store.specs.Size.{capacity}
use Rattle.store.specs.Laws.{apart, cells_length}
use Rattle.datom.specs.declared.Datom.{Datom}
use Rattle.datom.specs.Datom.{datom_of}
use Rattle.index.specs.Order.{DatomOrd}
use Rattle.index.proofs.Laws.{Preorder}
use Rattle.answer.specs.declared.Refusal.TheVariants.{Repeated}
use Rattle.rules.specs.Store.{bad_scratch}
use Rattle.rules.specs.Insert.{Outcome, refuse, batch_of}
use Rattle.rules.specs.Calls.{extent_of}
use Rattle.rules.specs.Lists.{In, in_left, in_right, turned}
use Rattle.history.specs.Statement.{Known, at, Call, inserts, given_root, given_batch, outcome_of, calls, next, gathered, WellFormed, Shared}
use Rattle.history.specs.More.{FirstShared, StaysFormed, GrewFrom, Resending, StaysHeld, AcceptedFormed}
use Rattle.history.specs.Order.{clash}
use Rattle.history.specs.After.{store_same}
use Rattle.history.specs.Sort.{Fresh}
use Rattle.history.proofs.Calls.{Inserted, badly, early, met, stays, done}
use Rattle.history.proofs.Agree.{formed_agrees}
use Rattle.history.proofs.Heap.{at_laws, later_agrees}
use Rattle.history.proofs.Invariant.{inserted_at, inv}
use Rattle.history.proofs.Listing.{later_history}
use Rattle.history.proofs.Demand.{beyond}

pub gathered_in : (bs : List (List ℕ)) (b : List ℕ) → In b bs → (d : Datom) → In d (batch_of b) → In d (gathered bs)
gathered_in [] b x'' d i = elim x'' [ ]
gathered_in (c ∷ bs) b (inl e) d i = in_left d (batch_of c) (gathered bs) (rw e at i)
gathered_in (c ∷ bs) b (inr j) d i = in_right d (batch_of c) (gathered bs) (gathered_in bs b j d i)

-- a batch of which every datom is shared shares its first one first
first_zero :
    (cmp : Datom → Datom → Ordering) (u b : List Datom) (i : ℕ) → ((d : Datom) → In d b → Shared cmp u d) → FirstShared cmp u b i → i ≡ 0
first_zero cmp u b i a F = side F.before refl
  where
    side : (p : List Datom) → F.before ≡ p → i ≡ 0
    side [] e = sym F.index ∙ ap length e
    side (d ∷ p) e =
        absurd (F.first d (rw e (inl refl)) (a d (rw F.batch (in_left d F.before (F.datom ∷ F.rest) (rw e (inl refl))))))

module _ (t : DatomOrd) (L : Preorder t.cmp) (x : Extent) (s : List ℕ) (scratch : ℕ) (u : List Datom) (b : List ℕ) where
  accepted_well_formed : {o : Outcome} {root : PageId} {n : ℕ} → Inserted t x s scratch u b o → o.answer ≡ done_with root n → WellFormed t b
  accepted_well_formed (badly y) e = absurd (apart (cc))
  accepted_well_formed (early y n) e = absurd (apart (cc))
  accepted_well_formed (met F) e = absurd (apart (cc))
  accepted_well_formed (stays y f) e = absurd (apart (cc))
  accepted_well_formed (done w f R) e = w

  not_fresh : Fresh t.cmp (batch_of b) u → (d : Datom) → In d (batch_of b) → Shared t.cmp u d → ⊥
  not_fresh f d i (y, j, e) = f d y i j (turned t.cmp L e)

  shared_refused :
      {o : Outcome} → Inserted t x s scratch u b o → WellFormed t b → bad_scratch x scratch ≡ false → (d : Datom) → In d (batch_of b) →
      ((y : Datom) → In y (batch_of b) → Shared t.cmp u y) → o ≡ refuse (Repeated 0)
  shared_refused (badly y) w e d i a = absurd (clash e y)
  shared_refused (early y n) w e d i a = absurd (n w)
  shared_refused (met {i = j} F) w e d i a =
      ap (λ (z : ℕ). refuse (Repeated z)) (first_zero t.cmp u (batch_of b) j a F)
  shared_refused (stays y f) w e d i a = absurd (not_fresh f d i (a d i))
  shared_refused (done v f R) w e d i a = absurd (not_fresh f d i (a d i))

-- a batch of some bytes and a multiple of 32 has a first datom
some_datom : (b : List ℕ) → 0 < length b → length b % 32 ≡ 0 → (d : Datom) × In d (batch_of b)
some_datom b h e = head (batch_of b) (omega (arith, cells_length datom_of 32 (length b / 32) b))
  where
    head : (ds : List Datom) → 0 < length ds → (d : Datom) × In d ds
    head [] k = absurd (omega arith)
    head (d ∷ ds) k = (d, inl refl)

-- the heap may have grown in between
pub stays_formed : StaysFormed
stays_formed m m₁ l b = formed_agrees (at m) (at m₁) (later_agrees l) b

module _ (size : ℕ) (known : capacity size ≡ 0 → ⊥) where
  -- what a call took in is among the datoms that led to a root that grew from its root
  still_there :
      (cmp : Datom → Datom → Ordering) (c : Call) (root : PageId) (k₁ : Known) →
      GrewFrom (record { root = root; batches = given_batch c ∷ (given_root c).batches }) k₁ → (d : Datom) →
      Shared cmp (batch_of (given_batch c)) d → Shared cmp (gathered k₁.batches) d
  still_there cmp c root k₁ g d (y, i, e) =
      let j : In (given_batch c) k₁.batches = rw g.1 (in_right (given_batch c) g.0 (given_batch c ∷ (given_root c).batches) (inl refl)) in
      (y, gathered_in k₁.batches (given_batch c) j y i, e)

  pub stays_held : StaysHeld size
  stays_held m h c F root n e m₁ l k₁ i₁ g b w part =
      ((beyond size known m₁ (later_history (h.0, next h.1 (calls c F)) l) k₁ i₁).asked b w).exactly.1 λ d j.
      still_there (at m₁).cmp c root k₁ g d (part d j)

  pub resending : Resending size
  resending m h c F root n e m₁ l k₁ i₁ g b w part lent some scratch ready =
      let x₁ = extent_of m₁.recorded in
      let I₁ = inv size known (later_history (h.0, next h.1 (calls c F)) l) in
      let d = some_datom b some w.multiple in
      let o : outcome_of m₁ (inserts k₁ b scratch) ≡ refuse (Repeated 0) =
      shared_refused (at m₁) (at_laws m₁) x₁ m₁.store scratch (gathered k₁.batches) b (inserted_at size known I₁ k₁ i₁ b scratch lent) w ready
      d.0 d.1 (λ y j. still_there (at m₁).cmp c root k₁ g y (part y j)) in
      (rw o, rw o (store_same x₁ m₁.store))

  pub accepted_formed : AcceptedFormed size
  accepted_formed m h k b scratch F root n e =
      accepted_well_formed (at m) (at_laws m) (extent_of m.recorded) m.store scratch (gathered k.batches) b
      (inserted_at size known (inv size known h) k F.known b scratch F.lent) e
