-- "1 now knows four sizes": what has a row in the table is known, and nothing else. Only the first says how many rows there are.
use Rattle.std.specs.Prelude.{ℕ, ◌*◌, ◌≤◌, Bool, not, List, [], ◌∷◌, ◌≡◌, length}
use Rattle.std.proofs.Math.Bool.{true, false}
use Rattle.std.proofs.Common.{inl, inr}
use Rattle.std.proofs.Math.Path.{refl}
use borrow.Author.Tests.{eqb-true, eqb-false, ne_eqb, le-ltb}
use Rattle.std.proofs.Math.Dec.{eqb}
use Rattle.store.specs.declared.Extent.{Extent}
use Rattle.store.specs.Size.{PageSize, page_sizes, sizes_of, sizes, capacity_in, capacity}
use Rattle.store.specs.Laws.{apart}
use Rattle.rules.specs.Page.{all}
use Rattle.rules.specs.Lists.{In, all_in}
use Rattle.rules.specs.Store.{bad_store}

four : sizes ≡ 256 ∷ 568 ∷ 4096 ∷ 8192 ∷ []
four = refl

-- a size of the table holds a datom: one test, computed over the table
pub size_known : (size : ℕ) → In size sizes → capacity size ≡ 0 → ⊥
unfolding capacity capacity_in all
size_known size i z =
    let some : not (eqb (capacity size) 0) ≡ true = all_in (λ (k : ℕ). not (eqb (capacity k) 0)) sizes refl size i in
    let none : ◌≡◌ {A = Bool} false true = rw z at some in
    apart (cc)

listed_in : (ps : List PageSize) (size : ℕ) → (capacity_in ps size ≡ 0 → ⊥) → In size (sizes_of ps)
unfolding capacity_in
listed_in [] size h = h refl
listed_in (p ∷ ps) size h = side (eqb size p.size) refl (listed_in ps size)
  where
    side :
        (b : Bool) → eqb size p.size ≡ b → ((capacity_in ps size ≡ 0 → ⊥) → In size (sizes_of ps)) →
        In size (sizes_of (p ∷ ps))
    side true e rest = inl (eqb-true size p.size e)
    side false e rest = inr (rest (λ z. h (rw e z)))

pub size_listed : (size : ℕ) → (capacity size ≡ 0 → ⊥) → In size sizes
unfolding capacity
size_listed = listed_in page_sizes

-- so 1 is given for every other size, and for none of these where the pages fit
module _ (x : Extent) (s : List ℕ) where
  pub other_size : (In x.size sizes → ⊥) → bad_store x s ≡ true
  unfolding bad_store
  other_size h = side (eqb (capacity x.size) 0) refl
    where
      side : (b : Bool) → eqb (capacity x.size) 0 ≡ b → bad_store x s ≡ true
      side true e = rw e
      side false e = absurd (h (size_listed x.size (eqb-false (capacity x.size) 0 e)))

  pub known_fits : In x.size sizes → x.count * x.size ≤ length s → bad_store x s ≡ false
  unfolding bad_store
  known_fits i h = rw (ne_eqb (capacity x.size) 0 (size_known x.size i), le-ltb (length s) (x.count * x.size) h)
