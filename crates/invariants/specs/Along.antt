-- What the code knows on its way along a page: the page was read, and what is left of the walk gives what the whole gives.
use Rattle.answer.specs.Answers.{Check, is_sound, unchecked, unsound_at}
use Rattle.std.specs.Prelude.{ℕ, ◌+◌, ◌-◌, ◌*◌, ◌<◌, ◌≤◌, true, false, List, ◌≡◌, length, drop}
use Rattle.std.proofs.Common.{arith, sym, ◌∙◌}
use Rattle.std.proofs.Math.Option.{Option}
use Rattle.store.specs.declared.PageId.{PageId}
use Rattle.store.specs.declared.Extent.{Extent}
use Rattle.store.specs.Page.{is_none}
use Rattle.store.specs.Size.{most_datoms, capacity}
use Rattle.datom.specs.declared.Datom.{Datom}
use Rattle.datom.specs.Datom.{datoms_of}
use Rattle.index.specs.Order.{DatomOrd}
use Rattle.answer.specs.declared.Fault.{Fault}
use Rattle.answer.specs.declared.Fault.TheVariants.{OutOfBounds}
use Rattle.answer.specs.declared.Refusal.{Refusal}
use Rattle.rules.specs.Page.{child_at}
use Rattle.rules.specs.Tree.{fine}
use Rattle.rules.specs.Store.{bad_store, page_at, fetched, fetch_page}
use Rattle.rules.specs.Check.{below_upper}
use Rattle.memory_store.specs.FetchLaws.{in_order}
use Rattle.memory_store.specs.Readable.{node_at, Opens, opens}
use Rattle.invariants.specs.Bounds.{bound_at}
use Rattle.invariants.specs.Walk.{under_of, under_is, left_of, left_end, left_outside, left_none, left_sound, left_unsound, left_refused, check_page, page_left}
use Rattle.invariants.specs.Leaf.{real_above}

-- page p, of level l and k datoms, with the bytes b; index i is next
pub record Along (t : DatomOrd) (x : Extent) (s : List ℕ) (c l : ℕ) (p : PageId) (k : ℕ) (b : List ℕ) (lower upper : Option Datom) (i : ℕ) (last midpoint : Option Datom) : Type 0 where
  pub good : bad_store x s ≡ false
  pub room : c ≡ capacity x.size
  pub read : fetch_page t x s p ≡ fine (node_at x s p l k)
  pub bytes : b ≡ page_at x s p
  pub whole : left_of t (under_of t (fetch_page t x s) l) p c k b upper i last midpoint ≡ check_page t x s l p lower upper

pub along_start :
    (t : DatomOrd) (x : Extent) (s : List ℕ) (c l : ℕ) (p : PageId) (k : ℕ) (b : List ℕ) (lower upper : Option Datom) → bad_store x s ≡ false →
    c ≡ capacity x.size → fetch_page t x s p ≡ fine (node_at x s p l k) → b ≡ fetched x s p → Along t x s c l p k b lower upper 0 lower lower
along_start t x s c l p k b lower upper good room read e =
    let bytes : b ≡ page_at x s p = e ∙ (opens t x s p l k good read).bytes in
    record {
      good = good;
      room = room;
      read = read;
      bytes = bytes;
      whole = page_left t x s l p lower upper k read b c bytes room;
    }

module _ {t : DatomOrd} {x : Extent} {s : List ℕ} {c l : ℕ} {p : PageId} {k : ℕ} {b : List ℕ} {lower upper : Option Datom} {i : ℕ} {last midpoint : Option Datom}
    (A : Along t x s c l p k b lower upper i last midpoint)
  where
    page_open : Opens t x s p l k
    page_open = opens t x s p l k A.good A.read

    long : length b ≡ length (page_at x s p)
    long = rw A.bytes

    -- what the code reads lies in the page
    pub along_datoms : 32 * k ≤ length b
    along_datoms = omega (arith, long, page_open.few, page_open.wide)

    pub along_child : i ≤ k → 32 * c + 8 * i + 8 ≤ length b
    along_child h = omega (arith, long, page_open.few, page_open.wide, A.room)

    pub along_few : k ≤ most_datoms
    along_few = omega (arith, page_open.few, (in_order x s A.good).known.few)

    pub along_end : k < i → is_sound ≡ check_page t x s l p lower upper
    along_end h = sym (left_end t (under_of t (fetch_page t x s) l) p c k b upper i last midpoint h) ∙ A.whole

    module _ (h : i ≤ k) (next : Option Datom) (n : next ≡ bound_at (drop i (datoms_of k b)) upper) where
      pub along_outside : below_upper t.cmp last next ≡ false → unsound_at p OutOfBounds ≡ check_page t x s l p lower upper
      along_outside e = sym (left_outside t (under_of t (fetch_page t x s) l) p c k b upper i last midpoint h next n e) ∙ A.whole

      module _ (within : below_upper t.cmp last next ≡ true) (child : PageId) (at : child ≡ child_at c b i) where
        goes :
            (m : Option Datom) →
            left_of t (under_of t (fetch_page t x s) l) p c k b upper i last midpoint ≡ left_of t (under_of t (fetch_page t x s) l) p c k b upper (i + 1) next m →
            Along t x s c l p k b lower upper (i + 1) next m
        goes m e = record { good = A.good; room = A.room; read = A.read; bytes = A.bytes; whole = sym e ∙ A.whole }

        pub along_none : is_none child ≡ true → Along t x s c l p k b lower upper (i + 1) next midpoint
        along_none e = goes midpoint (left_none t (under_of t (fetch_page t x s) l) p c k b upper i last midpoint h next n within child at e)

        module _ (real : is_none child ≡ false) where
          pub along_above : l ≡ 0 → ⊥
          along_above =
              real_above t x s p l k A.read i h (rw (at, A.bytes, A.room) at real)

          -- the child gave a
          module _ (a : Check) (e : a ≡ check_page t x s (l - 1) child midpoint next) where
            gave : under_of t (fetch_page t x s) l child midpoint next ≡ a
            gave = sym (e ∙ under_is t (fetch_page t x s) l child midpoint next along_above)

            pub along_sound : a ≡ is_sound → Along t x s c l p k b lower upper (i + 1) next next
            along_sound f =
                goes next (left_sound t (under_of t (fetch_page t x s) l) p c k b upper i last midpoint h next n within child at real (gave ∙ f))

            pub along_unsound : (q : PageId) (f : Fault) → a ≡ unsound_at q f → unsound_at q f ≡ check_page t x s l p lower upper
            along_unsound q f g =
                sym (left_unsound t (under_of t (fetch_page t x s) l) p c k b upper i last midpoint h next n within child at real q f (gave ∙ g)) ∙ A.whole

            pub along_refused : (r : Refusal) → a ≡ unchecked r → unchecked r ≡ check_page t x s l p lower upper
            along_refused r f =
                sym (left_refused t (under_of t (fetch_page t x s) l) p c k b upper i last midpoint h next n within child at real r (gave ∙ f)) ∙ A.whole
