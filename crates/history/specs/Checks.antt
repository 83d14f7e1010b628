-- The checks of a batch, 2, 3, 11 and 4 of the table: each finds nothing exactly if what it asks for holds. Rests on the rules alone.
use Prim.Native.Nat.{ℕ, suc, ◌%◌, ◌≤◌, Ordering}
use Rattle.std.proofs.Common.{arith, eqb-true, ltb-true, ltb-false}
use Rattle.std.specs.Prelude.{Bool, ◌⊎◌, ◌≡◌, ltb, eqb, length}
use Rattle.std.proofs.Math.Bool.{true, false}
use mathlib.Core.List.{List, [], ◌∷◌}
use Rattle.std.proofs.Math.Logic.{inl, inr}
use Rattle.std.proofs.Math.Path.{refl}
use Rattle.std.proofs.lemmas.Bool.{eqb-false}
use Rattle.store.specs.Laws.{apart}
use Rattle.datom.specs.declared.Datom.{Datom}
use Rattle.index.specs.Order.{DatomOrd, is_same}
use Rattle.index.proofs.Laws.{Preorder}
use Rattle.answer.specs.declared.Refusal.{Refusal}
use Rattle.answer.specs.declared.Refusal.TheVariants.{TooMany, BadDatom, BadConstant, OutOfOrder}
use Rattle.rules.specs.Lookup.{Finding, clear, found}
use Rattle.rules.specs.Store.{or_else}
use Rattle.rules.specs.Insert.{count_fault, form_fault, word_fault, order_fault, has_same, twin_fault, bytes_fault}
use Rattle.rules.specs.Lists.{In, Rising, rising_of, rising_in}
use Rattle.rules.specs.Checks.{order_tells}
use Rattle.history.specs.Order.{clash}
use Rattle.history.specs.Sort.{Distinct}

-- a refusal by 2, by 3 or 11, or by 4
abbrev pub Early : Refusal → Type 0
Early r = (r ≡ TooMany) ⊎ ((((i : ℕ) × (r ≡ BadDatom i)) ⊎ ((i : ℕ) × (r ≡ BadConstant i))) ⊎ ((i : ℕ) × (r ≡ OutOfOrder i)))

pub data Finds (P : Type 0) : Finding → Type 0 where
  is_clear : P → Finds P clear
  is_found : {r : Refusal} → Early r → (P → ⊥) → Finds P (found r)

pub finds_even : (b : List ℕ) → Finds (length b % 32 ≡ 0) (bytes_fault b)
unfolding bytes_fault
finds_even b = side (eqb (length b % 32) 0) refl
  where
    side : (v : Bool) → eqb (length b % 32) 0 ≡ v → Finds (length b % 32 ≡ 0) (bytes_fault b)
    side true e = rw e (is_clear (eqb-true (length b % 32) 0 e))
    side false e = rw e (is_found (inl refl) (eqb-false (length b % 32) 0 e))

pub finds_few : (ds : List Datom) → Finds (length ds ≤ 128) (count_fault ds)
unfolding count_fault
finds_few ds = side (ltb 128 (length ds)) refl
  where
    side : (v : Bool) → ltb 128 (length ds) ≡ v → Finds (length ds ≤ 128) (count_fault ds)
    side true e = rw e (is_found (inl refl) (λ h. omega (arith, ltb-true 128 (length ds) e)))
    side false e = rw e (is_clear (ltb-false 128 (length ds) e))

-- every datom passes a test
abbrev pub Every : (Datom → Bool) → List Datom → Type 0
Every ok ds = (d : Datom) → In d ds → ok d ≡ true

module _ (bad : ℕ → Refusal) (early : (i : ℕ) → Early (bad i)) where
  finds_form : (ok : Datom → Bool) (i : ℕ) (ds : List Datom) → Finds (Every ok ds) (form_fault bad ok i ds)
  unfolding form_fault
  finds_form ok i [] = is_clear λ d j. absurd j
  finds_form ok i (d ∷ ds) = side (ok d) refl (finds_form ok (suc i) ds)
    where
      more : {f : Finding} → ok d ≡ true → Finds (Every ok ds) f → Finds (Every ok (d ∷ ds)) f
      more e (is_clear a) = is_clear λ x j. elim j [ inl k ↦ rw k e | inr k ↦ a x k ]
      more e (is_found r n) = is_found r λ a. n (λ x j. a x (inr j))

      side : (b : Bool) → ok d ≡ b → Finds (Every ok ds) (form_fault bad ok (suc i) ds) → Finds (Every ok (d ∷ ds)) (form_fault bad ok i (d ∷ ds))
      side true e w = rw e (more e w)
      side false e w = rw e (is_found (early i) λ a. clash e (a d (inl refl)))

-- 3 for the whole batch, then 11
pub finds_word : (t : DatomOrd) (ds : List Datom) → Finds (Every t.formed ds × Every t.stored ds) (word_fault t ds)
unfolding word_fault
finds_word t ds =
    then (finds_form BadDatom (λ i. inr (inl (inl (i, refl)))) t.formed 0 ds) (finds_form BadConstant (λ i. inr (inl (inr (i, refl)))) t.stored 0 ds)
  where
    then : {f g : Finding} → Finds (Every t.formed ds) f → Finds (Every t.stored ds) g → Finds (Every t.formed ds × Every t.stored ds) (or_else found f g)
    then (is_clear a) (is_clear b) = is_clear (a, b)
    then (is_clear a) (is_found r n) = is_found r λ w. n w.1
    then (is_found r n) g = is_found r λ w. n w.0

module _ (cmp : Datom → Datom → Ordering) (L : Preorder cmp) where
  pub finds_order : (ds : List Datom) → Finds (Rising cmp ds) (order_fault cmp ds)
  finds_order ds = elim (order_tells cmp ds) [
    | inl w ↦ rw w.1 (is_clear (rising_in cmp L ds w.0))
    | inr w ↦ rw w.2 (is_found (inr (inr (w.1, refl))) λ a. clash w.0 (rising_of cmp ds a))
  ]

  -- for initialise: whether a datom is equal to one already seen
  abbrev Told : Datom → List Datom → Type 0
  Told d seen =
      ((has_same cmp d seen ≡ false) × ((y : Datom) → In y seen → cmp y d ≡ Ordering.eq → ⊥))
      ⊎ ((has_same cmp d seen ≡ true) × (y : Datom) × In y seen × (cmp y d ≡ Ordering.eq))

  any_same : (d : Datom) (seen : List Datom) → Told d seen
  unfolding has_same is_same
  any_same d [] = inl (refl, λ y i. absurd i)
  any_same d (x ∷ xs) = side (cmp x d) refl (any_same d xs)
    where
      other : is_same (cmp x d) ≡ false → (cmp x d ≡ Ordering.eq → ⊥) → Told d xs → Told d (x ∷ xs)
      other e n (inl w) = inl (rw e w.0, λ y i q. elim i [ inl j ↦ n (rw j at q) | inr j ↦ w.1 y j q ])
      other e n (inr w) = inr (rw e w.0, w.1, inr w.2, w.3)

      side : (o : Ordering) → cmp x d ≡ o → Told d xs → Told d (x ∷ xs)
      side Ordering.lt u w = other (rw u) (λ q. apart (cc)) w
      side Ordering.eq u w = inr (rw u, x, inl refl, u)
      side Ordering.gt u w = other (rw u) (λ q. apart (cc)) w

  -- a batch that follows datoms already seen
  abbrev Unseen : List Datom → List Datom → Type 0
  Unseen seen ds = ((x y : Datom) → In x ds → In y seen → cmp y x ≡ Ordering.eq → ⊥) × Distinct cmp ds

  finds_twin : (i : ℕ) (seen ds : List Datom) → Finds (Unseen seen ds) (twin_fault cmp i seen ds)
  unfolding twin_fault
  finds_twin i seen [] = is_clear (λ x y j. absurd j, tt)
  finds_twin i seen (d ∷ ds) = side (any_same d seen) (finds_twin (suc i) (d ∷ seen) ds)
    where
      more :
          {f : Finding} → ((y : Datom) → In y seen → cmp y d ≡ Ordering.eq → ⊥) → Finds (Unseen (d ∷ seen) ds) f →
          Finds (Unseen seen (d ∷ ds)) f
      more n (is_clear w) =
          is_clear (
            λ x y j k q. elim j [ inl h ↦ n y k (rw h at q) | inr h ↦ w.0 x y h (inr k) q ],
            (λ x j q. w.0 x d j (inl refl) q, w.1),
          )
      more n (is_found r w) = is_found r λ a. w (λ x y j k q. elim k [ inl h ↦ a.1.0 x j (rw h at q) | inr h ↦ a.0 x y (inr j) h q ], a.1.1)

      side :
          Told d seen → Finds (Unseen (d ∷ seen) ds) (twin_fault cmp (suc i) (d ∷ seen) ds) →
          Finds (Unseen seen (d ∷ ds)) (twin_fault cmp i seen (d ∷ ds))
      side (inl (e, n)) w = rw e (more n w)
      side (inr (e, y, k, q)) w = rw e (is_found (inr (inr (i, refl))) λ a. a.0 d y (inl refl) k q)

  pub finds_distinct : (ds : List Datom) → Finds (Distinct cmp ds) (twin_fault cmp 0 [] ds)
  finds_distinct ds = only (finds_twin 0 [] ds)
    where
      only : {f : Finding} → Finds (Unseen [] ds) f → Finds (Distinct cmp ds) f
      only (is_clear w) = is_clear w.1
      only (is_found r w) = is_found r λ a. w (λ x y j k. absurd k, a)
