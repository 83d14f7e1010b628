-- The orders' numbers: each names its order, and none else names one.
use Rattle.std.specs.Prelude.{ℕ, Bool, true, false, ◌≡◌, refl, eqb}
use Rattle.std.proofs.Common.{eqb-true}
use Rattle.store.specs.Laws.{apart}
use Rattle.index.specs.declared.Index.{Index}
use Rattle.index.specs.declared.Index.TheVariants.{Eavt, Aevt, Avet}
use Rattle.std.specs.Prelude.{Some, None}
use Rattle.index.specs.Order.{index_of}

abbrev pub index_number : Index → ℕ
index_number Eavt = 0
index_number Aevt = 1
index_number Avet = 2

pub number_names : (i : Index) → index_of (index_number i) ≡ Some i
unfolding index_of
number_names Eavt = refl
number_names Aevt = refl
number_names Avet = refl

pub named_number : (n : ℕ) (i : Index) → index_of n ≡ Some i → n ≡ index_number i
unfolding index_of
named_number n i e = side (eqb n 0) refl (eqb n 1) refl (eqb n 2) refl
  where
    side : (a : Bool) → eqb n 0 ≡ a → (b : Bool) → eqb n 1 ≡ b → (c : Bool) → eqb n 2 ≡ c → n ≡ index_number i
    side true p b q c r = let w : Some Eavt ≡ Some i = rw p at e in let z : Eavt ≡ i = cc in rw (← z) (eqb-true n 0 p)
    side false p true q c r = let w : Some Aevt ≡ Some i = rw (p, q) at e in let z : Aevt ≡ i = cc in rw (← z) (eqb-true n 1 q)
    side false p false q true r = let w : Some Avet ≡ Some i = rw (p, q, r) at e in let z : Avet ≡ i = cc in rw (← z) (eqb-true n 2 r)
    side false p false q false r = let w : None ≡ Some i = rw (p, q, r) at e in absurd (apart (cc))
