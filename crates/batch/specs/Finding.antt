-- What the checks of a batch answer.
use Rattle.std.specs.Prelude.{ℕ, ◌*◌, ◌/◌, ◌%◌, ◌<◌, ◌≤◌, Bool, true, false, List, ◌⊎◌, ◌≡◌, refl, eqb, ltb, length, Result, Ok, Err}
use Rattle.std.proofs.Common.{arith, inl, inr, ap}
use borrow.Author.Tests.{eqb-true, ltb-false, eq-eqb, ne_eqb, lt-ltb, le-ltb}
use Rattle.store.specs.Laws.{apart, cells_length}
use Rattle.datom.specs.Datom.{datom_of}
use Rattle.answer.specs.declared.Refusal.{Refusal}
use Rattle.answer.specs.declared.Refusal.TheVariants.{TooMany}
use Rattle.rules.specs.Lookup as rules
use Rattle.rules.specs.Store.{or_else}
use Rattle.rules.specs.Insert.{count_fault, bytes_fault, batch_of}

-- the rules' name of a finding
abbrev pub finding_of : Result (Unit {0}) Refusal → rules.Finding
finding_of (Ok done) = rules.clear
finding_of (Err r) = rules.found r

-- two findings that meet one promise are equal: form_fault, order_fault and twin_fault, lookup's lookup_all and held_all, entry's
-- insert_fault and initialise_fault promise nothing else of their answer
pub finding_same : (f g : Result (Unit {0}) Refusal) {r : rules.Finding} → finding_of f ≡ r → finding_of g ≡ r → f ≡ g
finding_same (Ok x) (Ok y) e h = refl
finding_same (Ok x) (Err q) e h = absurd (apart (cc))
finding_same (Err p) (Ok y) e h = absurd (apart (cc))
finding_same (Err p) (Err q) e h = let k : p ≡ q = cc in ap Err k

-- "2 TooMany: batch over 128, or its bytes no multiple of 32": first the bytes, then the count
unfoldable pub counted : List ℕ → Result ℕ Refusal
counted b = or_else Err (bytes_fault b) (or_else Err (count_fault (batch_of b)) (Ok (length b / 32)))

-- how long a batch of bytes is
batch_length : (b : List ℕ) → length (batch_of b) ≡ length b / 32
batch_length b = cells_length datom_of 32 (length b / 32) b

-- the ways through the count
module _ (b : List ℕ) where
  pub count_ragged : (length b % 32 ≡ 0 → ⊥) → Err TooMany ≡ counted b
  unfolding counted bytes_fault
  count_ragged h = rw (ne_eqb (length b % 32) 0 h)

  module _ (whole : length b % 32 ≡ 0) where
    pub count_over : 128 < length b / 32 → Err TooMany ≡ counted b
    unfolding counted bytes_fault count_fault
    count_over h = rw (eq-eqb (length b % 32) 0 whole, batch_length b, lt-ltb 128 (length b / 32) h)

    pub count_given : length b / 32 ≤ 128 → Ok (length b / 32) ≡ counted b
    unfolding counted bytes_fault count_fault
    count_given h = rw (eq-eqb (length b % 32) 0 whole, batch_length b, le-ltb 128 (length b / 32) h)

-- what a count that is given says, and a refused one
pub record Given (b : List ℕ) (n : ℕ) : Type 0 where
  pub bytes : bytes_fault b ≡ rules.clear
  pub count : count_fault (batch_of b) ≡ rules.clear
  pub is : length b / 32 ≡ n
  pub whole : length b ≡ 32 * n
  pub few : n ≤ 128

pub given_count : (b : List ℕ) (n : ℕ) → counted b ≡ Ok n → Given b n
unfolding counted bytes_fault count_fault
given_count b n e = side (eqb (length b % 32) 0) refl (ltb 128 (length (batch_of b))) refl
  where
    side : (p : Bool) → eqb (length b % 32) 0 ≡ p → (q : Bool) → ltb 128 (length (batch_of b)) ≡ q → Given b n
    side false u q v = let k : Err TooMany ≡ Ok n = rw u at e in absurd (apart (cc))
    side true u true v = let k : Err TooMany ≡ Ok n = rw (u, v) at e in absurd (apart (cc))
    side true u false v =
        let k : Ok (length b / 32) ≡ Ok n = rw (u, v) at e in
        let is : length b / 32 ≡ n = cc in
        let whole : length b % 32 ≡ 0 = eqb-true (length b % 32) 0 u in
        record {
          bytes = rw u;
          count = rw v;
          is = is;
          whole = omega arith;
          few = omega (arith, ltb-false 128 (length (batch_of b)) v, batch_length b);
        }

pub refused_count :
    (b : List ℕ) (r : Refusal) → counted b ≡ Err r →
    (bytes_fault b ≡ rules.found r) ⊎ ((bytes_fault b ≡ rules.clear) × (count_fault (batch_of b) ≡ rules.found r))
unfolding counted bytes_fault count_fault
refused_count b r e = side (eqb (length b % 32) 0) refl (ltb 128 (length (batch_of b))) refl
  where
    side :
        (p : Bool) → eqb (length b % 32) 0 ≡ p → (q : Bool) → ltb 128 (length (batch_of b)) ≡ q →
        (bytes_fault b ≡ rules.found r) ⊎ ((bytes_fault b ≡ rules.clear) × (count_fault (batch_of b) ≡ rules.found r))
    side false u q v = let k : Err TooMany ≡ Err r = rw u at e in let s : TooMany ≡ r = cc in inl (rw (u, s))
    side true u true v = let k : Err TooMany ≡ Err r = rw (u, v) at e in let s : TooMany ≡ r = cc in inr (rw u, rw (v, s))
    side true u false v = let k : Ok (length b / 32) ≡ Err r = rw (u, v) at e in absurd (apart (cc))
