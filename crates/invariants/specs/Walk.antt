-- The walk along one page, index by index, as the code's loop takes it.
use Rattle.answer.specs.Answers.{Check, is_sound, unchecked, unsound_at}
use Prim.Native.Nat.{ℕ, zero, suc, ◌+◌, ◌-◌, ◌*◌, ◌<◌, ◌≤◌}
use Rattle.std.proofs.Math.Decide.{dec_le}
use Rattle.std.proofs.Common.{arith, ◌∙◌, drop-drop}
use Rattle.std.specs.Prelude.{true, false, cond, ◌≡◌, leb, drop, get_or, Err}
use mathlib.Core.List.{List, [], ◌∷◌}
use Rattle.std.proofs.Math.Option.{Option, some}
use Rattle.std.proofs.Math.Path.{refl, sym, ap}
use borrow.Author.Tests.{le-leb, lt-leb, eq-eqb}
use Rattle.store.specs.declared.PageId.{PageId}
use Rattle.store.specs.declared.Extent.{Extent}
use Rattle.store.specs.Page.{none, is_none}
use Rattle.store.specs.Size.{capacity}
use Rattle.store.specs.Cells.{cells_end, pages_from}
use Rattle.datom.specs.declared.Datom.{Datom}
use Rattle.datom.specs.Datom.{datom_at, datom_of, datoms_of}
use Rattle.datom.specs.Laws.{datoms_from}
use Rattle.index.specs.Order.{DatomOrd}
use Rattle.answer.specs.declared.Fault.{Fault}
use Rattle.answer.specs.declared.Fault.TheVariants.{OutOfBounds}
use Rattle.answer.specs.declared.Refusal.{Refusal}
use Rattle.rules.specs.Page.{child_at, children_of, node_of}
use Rattle.rules.specs.Tree.{Fetched, faulty, fine, at_level, fetch_at}
use Rattle.rules.specs.Store.{page_at, fetch_page, env_of}
use Rattle.rules.specs.Check.{below_upper, Under, check_child, midpoint_next, walk, check_at}
use Rattle.memory_store.specs.Readable.{node_at}
use Rattle.memory_store.specs.Opened.{opened_of, opened_faulty}
use Rattle.invariants.specs.Bounds.{bound_at}

-- the check of a child of a page of level l
unfoldable pub under_of : DatomOrd → (PageId → Fetched) → ℕ → Under
under_of t fetch zero c lower upper = is_sound
under_of t fetch (suc l) c lower upper = check_at t.cmp fetch l c lower upper (at_level l (fetch c))

pub under_is :
    (t : DatomOrd) (fetch : PageId → Fetched) (l : ℕ) (c : PageId) (lower upper : Option Datom) → (l ≡ 0 → ⊥) →
    check_at t.cmp fetch (l - 1) c lower upper (at_level (l - 1) (fetch c)) ≡ under_of t fetch l c lower upper
unfolding under_of
under_is t fetch zero c lower upper h = absurd (h refl)
under_is t fetch (suc l) c lower upper h =
    let e : suc l - 1 ≡ l = omega arith in
    rw e

-- one turn of a walk
module _ (t : DatomOrd) (under : Under) (p : PageId) (cs : List PageId) (last midpoint upper : Option Datom) where
  abbrev child : PageId
  child = get_or cs 0 none

  turn_outside :
      (ds : List Datom) → below_upper t.cmp last (bound_at ds upper) ≡ false → walk t.cmp under p ds cs last midpoint upper ≡ unsound_at p OutOfBounds
  unfolding walk bound_at below_upper
  turn_outside [] h = rw h
  turn_outside (d ∷ ds) h = rw (walk, h)

  module _ (r : Check) where
    turn_last : below_upper t.cmp last upper ≡ true → check_child under child midpoint upper ≡ r → walk t.cmp under p [] cs last midpoint upper ≡ r
    unfolding walk
    turn_last h e = rw (h, e)

  module _ (d : Datom) (ds : List Datom) (h : below_upper t.cmp last (some d) ≡ true) where
    turn_on :
        check_child under child midpoint (some d) ≡ is_sound →
        walk t.cmp under p (d ∷ ds) cs last midpoint upper ≡ walk t.cmp under p ds (drop 1 cs) (some d) (midpoint_next child midpoint d) upper
    unfolding walk below_upper
    turn_on e = rw (walk, h, e)

    turn_unsound :
        (q : PageId) (f : Fault) → check_child under child midpoint (some d) ≡ unsound_at q f →
        walk t.cmp under p (d ∷ ds) cs last midpoint upper ≡ unsound_at q f
    unfolding walk below_upper
    turn_unsound q f e = rw (walk, h, e)

    turn_refused :
        (r : Refusal) → check_child under child midpoint (some d) ≡ unchecked r → walk t.cmp under p (d ∷ ds) cs last midpoint upper ≡ unchecked r
    unfolding walk below_upper
    turn_refused r e = rw (walk, h, e)

-- what is left of a walk at index i of a page of k datoms, with room for c
unfoldable pub left_of : DatomOrd → Under → PageId → ℕ → ℕ → List ℕ → Option Datom → ℕ → Option Datom → Option Datom → Check
left_of t under p c k b upper i last midpoint =
    cond (leb i k) (walk t.cmp under p (drop i (datoms_of k b)) (drop i (children_of c (suc k) b)) last midpoint upper) is_sound

module _ (t : DatomOrd) (under : Under) (p : PageId) (c k : ℕ) (b : List ℕ) (upper : Option Datom) (i : ℕ) (last midpoint : Option Datom) where
  abbrev left : Check
  left = left_of t under p c k b upper i last midpoint

  pub left_end : k < i → left ≡ is_sound
  unfolding left_of
  left_end h = rw (lt-leb i k h)

  module _ (h : i ≤ k) (next : Option Datom) (n : next ≡ bound_at (drop i (datoms_of k b)) upper) where
    pub left_outside : below_upper t.cmp last next ≡ false → left ≡ unsound_at p OutOfBounds
    unfolding left_of
    left_outside e = rw (le-leb i k h) (turn_outside t under p _ last midpoint upper (drop i (datoms_of k b)) (rw (← n) e))

    module _ (within : below_upper t.cmp last next ≡ true) (ch : PageId) (at : ch ≡ child_at c b i) where
      here : get_or (drop i (children_of c (suc k) b)) 0 none ≡ ch
      here = rw (pages_from (suc k) i (32 * c) b (omega arith)) (sym at)

      rest : drop 1 (drop i (children_of c (suc k) b)) ≡ drop (i + 1) (children_of c (suc k) b)
      rest = drop-drop 1 i (children_of c (suc k) b)

      -- at the last child, and before it
      ends : k ≤ i → drop i (datoms_of k b) ≡ []
      ends g = cells_end datom_of 32 k i b g

      bound_ends : k ≤ i → next ≡ upper
      unfolding bound_at
      bound_ends g = n ∙ ap (λ (ds : List Datom). bound_at ds upper) (ends g)

      bound_goes : i < k → next ≡ some (datom_at b (32 * i))
      unfolding bound_at
      bound_goes g = n ∙ ap (λ (ds : List Datom). bound_at ds upper) (datoms_from k i b g)

      left_last : (r : Check) → check_child under ch midpoint next ≡ r → k ≤ i → left ≡ r
      unfolding left_of
      left_last r e g =
          rw (le-leb i k h, ends g)
          (turn_last t under p _ last midpoint upper r (rw (← bound_ends g) within) (rw (here, ← bound_ends g) e))

      child_none : is_none ch ≡ true → check_child under ch midpoint next ≡ is_sound
      unfolding check_child
      child_none e = rw e

      child_real : is_none ch ≡ false → check_child under ch midpoint next ≡ under ch midpoint next
      unfolding check_child
      child_real e = rw e

      -- on to the next index, with m for the midpoint
      left_next :
          (m : Option Datom) → check_child under ch midpoint next ≡ is_sound → ((d : Datom) → next ≡ some d → midpoint_next ch midpoint d ≡ m) →
          left ≡ left_of t under p c k b upper (i + 1) next m
      unfolding left_of
      left_next m e f = elim (dec_le k i) [
        | yes g ↦ left_last is_sound e g ∙ sym (rw (lt-leb (i + 1) k (omega (arith, g))))
        | no g ↦
            let lt : i < k = omega (arith, g) in
            let n₁ = bound_goes lt in
            rw (le-leb i k h, le-leb (i + 1) k (omega arith), datoms_from k i b lt)
            (turn_on t under p _ last midpoint upper _ _ (rw (← n₁) within) (rw (here, ← n₁) e) ∙ rw (here, rest, f _ n₁, n₁))
      ]

      pub left_none : is_none ch ≡ true → left ≡ left_of t under p c k b upper (i + 1) next midpoint
      unfolding midpoint_next
      left_none e = left_next midpoint (child_none e) (λ d g. rw e)

      module _ (real : is_none ch ≡ false) where
        pub left_sound : under ch midpoint next ≡ is_sound → left ≡ left_of t under p c k b upper (i + 1) next next
        unfolding midpoint_next
        left_sound e = left_next next (child_real real ∙ e) (λ d g. rw (real, g))

        pub left_unsound : (q : PageId) (f : Fault) → under ch midpoint next ≡ unsound_at q f → left ≡ unsound_at q f
        unfolding left_of
        left_unsound q f e = elim (dec_le k i) [
          | yes g ↦ left_last (unsound_at q f) (child_real real ∙ e) g
          | no g ↦
              let lt : i < k = omega (arith, g) in
              let n₁ = bound_goes lt in
              rw (le-leb i k h, datoms_from k i b lt)
              (turn_unsound t under p _ last midpoint upper _ _ (rw (← n₁) within) q f (rw (here, ← n₁) (child_real real ∙ e)))
        ]

        pub left_refused : (r : Refusal) → under ch midpoint next ≡ unchecked r → left ≡ unchecked r
        unfolding left_of
        left_refused r e = elim (dec_le k i) [
          | yes g ↦ left_last (unchecked r) (child_real real ∙ e) g
          | no g ↦
              let lt : i < k = omega (arith, g) in
              let n₁ = bound_goes lt in
              rw (le-leb i k h, datoms_from k i b lt)
              (turn_refused t under p _ last midpoint upper _ _ (rw (← n₁) within) r (rw (here, ← n₁) (child_real real ∙ e)))
        ]

-- a page of the store, which is to be of level l
module _ (t : DatomOrd) (x : Extent) (s : List ℕ) (l : ℕ) (p : PageId) (lower upper : Option Datom) where
  abbrev pub check_page : Check
  check_page = check_at t.cmp (fetch_page t x s) l p lower upper (at_level l (fetch_page t x s p))

  unsound : (m : ℕ) (f : Fault) → unsound_at p f ≡ check_at t.cmp (fetch_page t x s) m p lower upper (faulty f)
  unfolding check_at
  unsound zero f = refl
  unsound (suc m) f = refl

  pub page_faulty : (f : Fault) → Err f ≡ opened_of (fetch_at (env_of t x s) l p) → unsound_at p f ≡ check_page
  unfolding fetch_at env_of
  page_faulty f e = rw (opened_faulty f (at_level l (fetch_page t x s p)) e) (unsound l f)

  module _ (k : ℕ) (e : fetch_page t x s p ≡ fine (node_at x s p l k)) where
    walked :
        (v : ℕ) →
        walk t.cmp (under_of t (fetch_page t x s) v) p (datoms_of k (page_at x s p)) (children_of (capacity x.size) (suc k) (page_at x s p)) lower lower upper
        ≡ check_at t.cmp (fetch_page t x s) v p lower upper (fine (node_at x s p l k))
    unfolding check_at under_of node_of
    walked zero = refl
    walked (suc v) = refl

    pub page_left :
        (b : List ℕ) (c : ℕ) → b ≡ page_at x s p → c ≡ capacity x.size →
        left_of t (under_of t (fetch_page t x s) l) p c k b upper 0 lower lower ≡ check_page
    unfolding left_of at_level node_of
    page_left b c u v = rw (u, v, e, eq-eqb l l refl, le-leb 0 k (omega arith)) (walked l)
