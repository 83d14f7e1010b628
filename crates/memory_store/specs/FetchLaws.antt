-- What the store's tests say, and where a page that is given lies.
use Rattle.answer.specs.Answers.{page_given}
use Rattle.std.specs.Prelude.{◌≡◌, ℕ, ◌+◌, ◌*◌, ◌/◌, ◌<◌, ◌≤◌, Bool, true, false, List, [], length, drop, ◌==◌, nat_lt, Ok, Err}
use Rattle.std.proofs.Math.Decide.{dec_le}
use Rattle.std.proofs.Common.{mul-le-mul_right, add-mul, one-mul, le-div_iff_mul-le, div-lt_iff_lt-mul, arith, sym, ◌∙◌, length-drop, length-take-le}
use Rattle.std.proofs.Math.Path.{refl}
use borrow.Author.Tests.{eqb-false, ltb-true, ltb-false, lt-ltb, le-ltb}
use Rattle.store.specs.declared.PageId.{PageId}
use Rattle.store.specs.declared.Extent.{Extent}
use Rattle.store.specs.Page.{none, is_none}
use Rattle.store.specs.Size.{capacity}
use Rattle.store.specs.Laws.{apart, Known, known_size}
use Rattle.answer.specs.declared.Refusal.{Refusal}
use Rattle.answer.specs.declared.Refusal.TheVariants.{BadStore, NoPage}
use Rattle.answer.specs.declared.Rule.{Rule}
use Rattle.answer.specs.declared.Fault.TheVariants.{Missing, Breaks}
use Rattle.index.specs.Order.{DatomOrd}
use Rattle.rules.specs.Page.{read_page}
use Rattle.rules.specs.Tree.{faulty}
use Rattle.rules.specs.Store.{bad_store, bad_root, fetch_fault, fetch_answer, page_at, fetched, fetch_page}
use Rattle.memory_store.specs.declared.reader.Header.{Header}
use Rattle.memory_store.specs.Reading.{said, told}

-- a store in order
pub record InOrder (x : Extent) (s : List ℕ) : Type 0 where
  pub known : Known x.size
  pub holds : x.count * x.size ≤ length s

pub in_order : (x : Extent) (s : List ℕ) → bad_store x s ≡ false → InOrder x s
unfolding bad_store
in_order x s h = side (capacity x.size == 0) refl (nat_lt (length s) (x.count * x.size)) refl
  where
    side : (a : Bool) → (capacity x.size == 0) ≡ a → (b : Bool) → nat_lt (length s) (x.count * x.size) ≡ b → InOrder x s
    side true p b q = absurd (apart (cc))
    side false p true q = absurd (apart (cc))
    side false p false q =
        record { known = known_size x.size (eqb-false (capacity x.size) 0 p); holds = ltb-false (length s) (x.count * x.size) q }

-- dividing the length answers what the product asks
pub by_room : (size count n : ℕ) → 0 < size → nat_lt (n / size) count ≡ nat_lt n (count * size)
by_room size count n h = elim (dec_le (count * size) n) [
  | yes a ↦ le-ltb (n / size) count ((le-div_iff_mul-le h).1 a) ∙ sym (le-ltb n (count * size) a)
  | no a ↦
      let b : n < count * size = omega (arith, a) in
      lt-ltb (n / size) count ((div-lt_iff_lt-mul h).1 b) ∙ sym (lt-ltb n (count * size) b)
]

-- a page below the count lies in the store
pub page_inside : (x : Extent) (s : List ℕ) (p : ℕ) → InOrder x s → p < x.count → p * x.size + x.size ≤ length s
page_inside x s p o h =
    let more : (p + 1) * x.size ≤ x.count * x.size = mul-le-mul_right x.size (omega arith) in
    omega (arith, o.holds, add-mul p 1 x.size, one-mul x.size)

-- and is all of its own part
pub page_long : (x : Extent) (s : List ℕ) (p : PageId) → InOrder x s → p.0 < x.count → length (page_at x s p) ≡ x.size
unfolding page_at
page_long x s p o h =
    length-take-le x.size (drop (p.0 * x.size) s) (omega (arith, page_inside x s p.0 o h, length-drop (p.0 * x.size) s))

-- the ways through the test of a root
module _ (x : Extent) (root : PageId) where
  pub root_none : is_none root ≡ true → false ≡ bad_root x root
  unfolding bad_root
  root_none e = rw e

  pub root_past : is_none root ≡ false → x.count ≤ root.0 → true ≡ bad_root x root
  unfolding bad_root
  root_past e h = rw (e, le-ltb root.0 x.count h)

  pub root_given : is_none root ≡ false → root.0 < x.count → false ≡ bad_root x root
  unfolding bad_root
  root_given e h = rw (e, lt-ltb root.0 x.count h)

module _ (x : Extent) (s : List ℕ) (p : PageId) where
  -- the tests, in their order
  pub fetch_bad : bad_store x s ≡ true → fetch_answer x s p ≡ Err BadStore
  unfolding fetch_answer fetch_fault
  fetch_bad h = rw h

  pub fetch_past : bad_store x s ≡ false → x.count ≤ p.0 → fetch_answer x s p ≡ Err NoPage
  unfolding fetch_answer fetch_fault
  fetch_past h k = rw (h, le-ltb p.0 x.count k)

  pub fetch_given : bad_store x s ≡ false → p.0 < x.count → fetch_answer x s p ≡ page_given
  unfolding fetch_answer fetch_fault
  fetch_given h k = rw (h, lt-ltb p.0 x.count k)

  pub given : fetch_answer x s p ≡ page_given → (bad_store x s ≡ false) × (p.0 < x.count)
  unfolding fetch_answer fetch_fault
  given e = side (bad_store x s) refl (nat_lt p.0 x.count) refl
    where
      side : (a : Bool) → bad_store x s ≡ a → (b : Bool) → nat_lt p.0 x.count ≡ b → (bad_store x s ≡ false) × (p.0 < x.count)
      side true u b v = let k : Err BadStore ≡ page_given = rw u at e in absurd (apart (cc))
      side false u true v = (u, ltb-true p.0 x.count v)
      side false u false v = let k : Err NoPage ≡ page_given = rw (u, v) at e in absurd (apart (cc))

  pub given_fetched : fetch_answer x s p ≡ page_given → fetched x s p ≡ page_at x s p
  unfolding fetched fetch_fault
  given_fetched e = let w = given e in rw (w.0, lt-ltb p.0 x.count w.1)

  pub refused_fetched : (r : Refusal) → fetch_answer x s p ≡ Err r → fetched x s p ≡ []
  unfolding fetch_answer fetched fetch_fault
  refused_fetched r e = side (bad_store x s) refl (nat_lt p.0 x.count) refl
    where
      side : (a : Bool) → bad_store x s ≡ a → (b : Bool) → nat_lt p.0 x.count ≡ b → fetched x s p ≡ []
      side true u b v = rw u
      side false u true v = let k : page_given ≡ Err r = rw (u, v) at e in absurd (apart (cc))
      side false u false v = rw (u, v)

-- "none" is no page, whatever the number of pages, which is a word
pub none_missing : (t : DatomOrd) (x : Extent) (s : List ℕ) → x.count ≤ none.0 → fetch_page t x s none ≡ faulty Missing
unfolding fetch_page
none_missing t x s h = rw (le-ltb none.0 x.count h)

-- a page as it is read during a call
module _ (t : DatomOrd) (x : Extent) (s : List ℕ) (p : PageId) where
  pub found_missing : x.count ≤ p.0 → told x s p (Err Missing) ≡ fetch_page t x s p
  unfolding told fetch_page
  found_missing h = rw (le-ltb p.0 x.count h)

  module _ (h : p.0 < x.count) where
    pub found_broken :
        (r : Rule) → said (capacity x.size) (page_at x s p) (Err r) ≡ read_page t (capacity x.size) p (page_at x s p) →
        told x s p (Err (Breaks r)) ≡ fetch_page t x s p
    unfolding told said fetch_page
    found_broken r e = rw (lt-ltb p.0 x.count h, ← e)

    pub found_fine :
        (r : Header) → said (capacity x.size) (page_at x s p) (Ok r) ≡ read_page t (capacity x.size) p (page_at x s p) →
        told x s p (Ok r) ≡ fetch_page t x s p
    unfolding told said fetch_page
    found_fine r e = rw (lt-ltb p.0 x.count h, ← e)
