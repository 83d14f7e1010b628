-- A listing at a known root, begun at one moment, each step taken at a moment of its own: it hands out the datoms from the lower bound up
-- to but not including the upper, each once, ascending, and ends. Store and heap may have grown before each step. Rests on Lists and
-- Invariant.
use Rattle.std.specs.Prelude.{Ok}
use Rattle.answer.specs.Answers.{ended_step, has_begun, yielding}
use Prim.Native.Nat.{ℕ, zero, suc, ◌≤◌, ◌<◌, Ordering}
use Rattle.std.proofs.Common.{arith, inl, sym, ◌∙◌, ap, ap₂}
use Rattle.std.specs.Prelude.{Bool, ◌&&◌, cond, ◌≡◌, length}
use Rattle.std.proofs.Math.Bool.{true, false, not}
use mathlib.Core.List.{List, [], ◌∷◌, map}
use Rattle.std.proofs.Math.Path.{refl}
use Rattle.std.proofs.lemmas.List.{length-map}
use Rattle.store.specs.declared.PageId.{PageId}
use Rattle.store.specs.declared.Extent.{Extent}
use Rattle.store.specs.Page.{is_none}
use Rattle.store.specs.Size.{capacity}
use Rattle.datom.specs.declared.Datom.{Datom}
use Rattle.index.specs.Order.{DatomOrd, is_less, index_of}
use Rattle.index.proofs.Laws.{Preorder}
use Rattle.index.proofs.Agree.{Agrees}
use Rattle.answer.specs.declared.Cursor.{Cursor}
use Rattle.answer.specs.declared.Started.{Started}
use Rattle.answer.specs.declared.Stepped.{Stepped}
use Rattle.answer.specs.Fit.{CursorFits}
use Rattle.rules.specs.Page.{Node, node_of}
use Rattle.rules.specs.Node.{below}
use Rattle.rules.specs.Tree.{Fetched, fine, at_level}
use Rattle.rules.specs.Store.{bad_store, fetch_page}
use Rattle.rules.specs.Listing.{Frame, frames_from, cursor_of, join_paths, same_indices, start_at, start_under, start_list, step_list, whole, also, frame_of, staying}
use Rattle.rules.specs.Append.{bad_heap}
use Rattle.rules.specs.Calls.{extent_of, is_unknown, start_call, step_call}
use Rattle.rules.specs.Recorded.{start_call_law, step_call_law}
use Rattle.rules.specs.Lists.{In, Rising, less}
use Rattle.rules.proofs.ReadLaws.{fetch_tells}
use Rattle.rules.proofs.Sizes.{level_is, level_fine}
use Rattle.history.specs.Statement.{Moment, at, Later, now, next, History, StepsAlong, handed}
use Rattle.history.specs.Fit.{Each, SmallFrame, ReadSmall, cursor_fits, frames_small}
use Rattle.history.specs.More.{AllFit}
use Rattle.history.specs.Order.{up_to, Front, below_front, up_front}
use Rattle.history.specs.Tree.{Tree, InTree, Good, Exactly}
use Rattle.history.specs.Pages.{page, child, Holds, no_page, a_page, Extends, level_extends, holds_extends, Stored}
use Rattle.history.specs.Child.{child_by, child_stored}
use Rattle.history.specs.Step.{down, opens_by, along, frames_agree}
use Rattle.history.specs.Lists.{Left, left_next, at_end, goes_on}
use Rattle.history.specs.Held.{at_own}
use Rattle.history.specs.After.{in_order}
use Rattle.history.specs.Sort.{within, within_in, within_rising, within_none}
use Rattle.history.proofs.Calls.{RootIs, root_known}
use Rattle.history.proofs.Agree.{good_agrees, ascends_agrees}
use Rattle.history.proofs.Heap.{at_laws, later_agrees}
use Rattle.history.proofs.Invariant.{fetches, next_extends, inv}

-- what comes later than what comes later
pub later_later : {m m₁ m₂ : Moment} → Later m m₁ → Later m₁ m₂ → Later m m₂
later_later a now = a
later_later a (next b n) = next (later_later a b) n

pub later_history : {size : ℕ} {m m₁ : Moment} → History size m → Later m m₁ → History size m₁
later_history h l = (h.0, later_later h.1 l)

-- "level at most 7"
fetch_low : (t : DatomOrd) (x : Extent) (s : List ℕ) (p : PageId) (n : Node) → fetch_page t x s p ≡ fine n → n.level ≤ 7
unfolding node_of
fetch_low t x s p n e = let R = (fetch_tells t x s p n e).1 in rw (← R.node) R.low

-- a moment at which a listing that was begun goes on: store and heap in order, an order that agrees, and the pages that were read
pub record GoesOn (t : DatomOrd) (f : PageId → Fetched) (m : Moment) : Type 0 where
  pub store : bad_store (extent_of m.recorded) m.store ≡ false
  pub heap : bad_heap m.recorded.heap m.heap ≡ false
  pub order : is_unknown (index_of m.recorded.order) ≡ false
  pub agrees : Agrees t (at m)
  pub extends : Extends f (fetches m)

-- what comes later reads the same pages, and finds its store in order
module _ (size : ℕ) (known : capacity size ≡ 0 → ⊥) where
  pub later_extends : {m m₁ : Moment} → History size m → Later m m₁ → Extends (fetches m) (fetches m₁)
  later_extends h now p n e = e
  later_extends h (next l x) p n e = next_extends x (inv size known (later_history h l)) p n (later_extends h l p n e)

  pub ready : {m : Moment} → History size m → bad_store (extent_of m.recorded) m.store ≡ false
  ready {m} h = let I = inv size known h in in_order (extent_of m.recorded) m.store (rw I.sized known) I.fits

  pub later_goes : {m m₁ : Moment} → History size m → Later m m₁ → GoesOn (at m) (fetches m) m₁
  later_goes {m} {m₁} h l =
      let h₁ : History size m₁ = later_history h l in
      let I = inv size known h₁ in
      record { store = ready h₁; heap = I.heap; order = I.order; agrees = later_agrees l; extends = later_extends h l }

-- the frames of a test are the same where the same pages are read
opens_same :
    {f g : PageId → Fetched} → Extends f g → (p : Datom → Bool) (l : ℕ) (q : PageId) (n : Node) (t : Tree) →
    Holds f (page l n.datoms n.children) t → opens_by g p l q (fine n) ≡ opens_by f p l q (fine n)
unfolding opens_by
opens_same x p zero q n t h = refl
opens_same {f} {g} x p (suc l) q n t h =
    let s : Stored f l (down p n) (child_by p t) = child_stored p h in
    rw (s.read, level_extends x l (down p n) s.node s.read, opens_same x p l (down p n) s.node (child_by p t) s.holds)

-- what the first of some steps hands out
module _ (n : ℕ) (r : ℕ → Stepped) where
  handed_end : (r 0).answer ≡ ended_step → handed (suc n) r ≡ whole []
  unfolding handed
  handed_end e = rw (e, handed)

  handed_on : (d : Datom) → (r 0).answer ≡ yielding d → handed (suc n) r ≡ also d (handed n (λ i. r (suc i)))
  unfolding handed
  handed_on d e = rw (e, handed)

-- a cursor of height 0 has ended
module _ (t : DatomOrd) (f : PageId → Fetched) where
  still_there : (m : Moment) → GoesOn t f m → step_call m.recorded m.store m.heap (cursor_of [] []) ≡ staying (cursor_of [] []) ended_step
  unfolding step_list cursor_of frames_from same_indices
  still_there m G = step_call_law m.recorded m.store m.heap G.heap G.order (cursor_of [] []) ∙ rw G.store

  still :
      (when : ℕ → Moment) → ((i : ℕ) → GoesOn t f (when i)) → (n : ℕ) (r : ℕ → Stepped) → StepsAlong when n (cursor_of [] []) r → 0 < n →
      handed n r ≡ whole []
  still when o zero r w h = absurd (omega arith)
  still when o (suc n) r w h = handed_end n r (rw (w.0, still_there (when 0) (o 0)))

  still_fit :
      (n : ℕ) (when : ℕ → Moment) → ((i : ℕ) → GoesOn t f (when i)) → (r : ℕ → Stepped) → StepsAlong when n (cursor_of [] []) r → AllFit n r
  still_fit zero when o r w = tt
  still_fit (suc n) when o r w =
      let z : r 0 ≡ staying (cursor_of [] []) ended_step = w.0 ∙ still_there (when 0) (o 0) in (
        rw z (cursor_fits [] [] (omega arith) (omega arith) tt tt),
        still_fit n (λ i. when (suc i)) (λ i. o (suc i)) (λ i. r (suc i)) (rw z at w.1),
      )

-- a test that every order has
abbrev Test : Type 0
Test = (Datom → Datom → Ordering) → Datom → Bool

-- a cursor from a test to the upper bound, stepped where the same pages are read and perhaps more, by an order that agrees
module _
    (t : DatomOrd) (L : Preorder t.cmp) (f : PageId → Fetched) (l : ℕ) (q : PageId) (n : Node) (tr : Tree)
    (h : Holds f (page l n.datoms n.children) tr) (g : Good t.cmp tr) (stored : (y : Datom) → InTree y tr → t.stored y ≡ true)
    (read : at_level l (f q) ≡ fine n) (low : l ≤ 7) (hi : Datom) (b : t.bound hi ≡ true)
  where
    -- where a listing stands: what is left, by a test of which every order says the same
    record Stands (P : Test) (rest : List Datom) : Type 0 where
      pub left : Left t.cmp tr hi (P t.cmp) rest
      pub front : (u : DatomOrd) → Preorder u.cmp → Front u.cmp (P u.cmp)
      pub same : (u : DatomOrd) → Agrees t u → (y : Datom) → InTree y tr → P u.cmp y ≡ P t.cmp y

    -- the frames of a test, and the cursor from there to the upper bound
    abbrev frames : (PageId → Fetched) → (Datom → Bool) → List Frame
    frames f₁ p = map frame_of (opens_by f₁ p l q (fine n))

    abbrev there : Test → Cursor
    there P = cursor_of (frames f (P t.cmp)) (frames f (below t.cmp hi))

    upper_same : (u : DatomOrd) → Agrees t u → (y : Datom) → InTree y tr → below u.cmp hi y ≡ below t.cmp hi y
    upper_same u A y i = ap is_less (A.cmp y hi (A.may y (stored y i)) b)

    -- from the lower bound, and past a datom of the tree
    from_below :
        (lo : Datom) → t.bound lo ≡ true → (rest : List Datom) → Left t.cmp tr hi (below t.cmp lo) rest → Stands (λ cmp. below cmp lo) rest
    from_below lo a rest c =
        record {
          left = c;
          front = λ u U. below_front u.cmp U lo;
          same = λ u A y i. ap is_less (A.cmp y lo (A.may y (stored y i)) a);
        }

    stands_next : (P : Test) (d : Datom) (rest : List Datom) → Stands P (d ∷ rest) → Stands (λ cmp. up_to cmp d) rest
    stands_next P d rest S =
        let i : InTree d tr = (S.left.only d (inl refl)).0 in
        record {
          left = left_next t.cmp L tr hi (P t.cmp) d rest S.left;
          front = λ u U. up_front u.cmp U d;
          same = λ u A y j. ap (λ (o : Ordering). not (is_less o)) (A.cmp d y (A.may d (stored d i)) (A.may y (stored y j)));
        }

    module _ (m : Moment) (G : GoesOn t f m) where
      good_there : Good (at m).cmp tr
      good_there = good_agrees t (at m) G.agrees tr stored g

      -- what is left is left in the moment's order, too
      left_there : (P : Test) (rest : List Datom) → Stands P rest → Left (at m).cmp tr hi (P (at m).cmp) rest
      left_there P rest S =
          let c = S.left in
          let p = S.same (at m) G.agrees in
          let e = upper_same (at m) G.agrees in
          record {
            front = S.front (at m) (at_laws m);
            rising = ascends_agrees t (at m) G.agrees rest (λ y i. stored y (c.only y i).0) c.rising;
            only = λ y i. let w = c.only y i in (w.0, p y w.0 ∙ w.1, e y w.0 ∙ w.2);
            every = λ y i a b. c.every y i (sym (p y i) ∙ a) (sym (e y i) ∙ b);
            under = λ y i a. e y i ∙ c.under y i (sym (p y i) ∙ a);
          }

      -- and its cursor is the same
      frames_same : (P : Test) → ((y : Datom) → InTree y tr → P (at m).cmp y ≡ P t.cmp y) → frames (fetches m) (P (at m).cmp) ≡ frames f (P t.cmp)
      frames_same P e =
          ap (map frame_of) (opens_same G.extends (P (at m).cmp) l q n tr h) ∙ frames_agree f (P (at m).cmp) (P t.cmp) l q n tr h e

      cursor_same :
          (P : Test) → ((y : Datom) → InTree y tr → P (at m).cmp y ≡ P t.cmp y) →
          cursor_of (frames (fetches m) (P (at m).cmp)) (frames (fetches m) (below (at m).cmp hi)) ≡ there P
      cursor_same P e =
          ap₂ cursor_of (frames_same P e) (frames_same (λ cmp. below cmp hi) (upper_same (at m) G.agrees))

      ends : (P : Test) → Stands P [] → step_call m.recorded m.store m.heap (there P) ≡ staying (there P) ended_step
      ends P S =
          step_call_law m.recorded m.store m.heap G.heap G.order (there P)
          ∙ (rw (cursor_same P (S.same (at m) G.agrees)) at
          (at_end (at m) (at_laws m) (extent_of m.recorded) m.store G.store l q n tr (holds_extends G.extends h) good_there
          (level_extends G.extends l q n read) low hi (P (at m).cmp) (left_there P [] S)))

      goes :
          (P : Test) (d : Datom) (rest : List Datom) → Stands P (d ∷ rest) →
          step_call m.recorded m.store m.heap (there P) ≡ record { answer = yielding d; cursor = there (λ cmp. up_to cmp d) }
      goes P d rest S =
          step_call_law m.recorded m.store m.heap G.heap G.order (there P)
          ∙ (rw (cursor_same P (S.same (at m) G.agrees), cursor_same (λ cmp. up_to cmp d) ((stands_next P d rest S).same (at m) G.agrees)) at
          (goes_on (at m) (at_laws m) (extent_of m.recorded) m.store G.store l q n tr (holds_extends G.extends h) good_there
          (level_extends G.extends l q n read) low hi (P (at m).cmp) d rest (left_there P (d ∷ rest) S)))

    -- one step for each datom that is left, and one that finds the end
    hands_out :
        (k : ℕ) (when : ℕ → Moment) → ((i : ℕ) → GoesOn t f (when i)) → (r : ℕ → Stepped) (P : Test) (rest : List Datom) → Stands P rest →
        StepsAlong when k (there P) r → length rest < k → handed k r ≡ whole rest
    hands_out zero when o r P rest S w b = absurd (omega arith)
    hands_out (suc k) when o r P [] S w b = handed_end k r (rw (w.0, ends (when 0) (o 0) P S))
    hands_out (suc k) when o r P (d ∷ rest) S w b =
        let z : r 0 ≡ record { answer = yielding d; cursor = there (λ cmp. up_to cmp d) } = w.0 ∙ goes (when 0) (o 0) P d rest S in
        handed_on k r d (rw z)
        ∙ ap (also d)
        (hands_out k (λ i. when (suc i)) (λ i. o (suc i)) (λ i. r (suc i)) (λ cmp. up_to cmp d) rest (stands_next P d rest S) (rw z at w.1) (omega arith))

    -- and words of 64 bits hold every cursor on the way
    module _ (R : ReadSmall f) where
      there_fits : (P : Test) → CursorFits (there P)
      there_fits P = cursor_fits _ _ (few (P t.cmp)) (few (below t.cmp hi)) (small (P t.cmp)) (small (below t.cmp hi))
        where
          few : (p : Datom → Bool) → length (frames f p) ≤ 8
          few p = omega (arith, length-map (opens_by f p l q (fine n)) frame_of, (along f p l q n tr h).long)

          small : (p : Datom → Bool) → Each SmallFrame (frames f p)
          small p = frames_small f R p l q n tr h (level_fine l (f q) n read)

      fit_along :
          (k : ℕ) (when : ℕ → Moment) → ((i : ℕ) → GoesOn t f (when i)) → (r : ℕ → Stepped) (P : Test) (rest : List Datom) → Stands P rest →
          StepsAlong when k (there P) r → AllFit k r
      fit_along zero when o r P rest S w = tt
      fit_along (suc k) when o r P [] S w =
          let z : r 0 ≡ staying (there P) ended_step = w.0 ∙ ends (when 0) (o 0) P S in (
            rw z (there_fits P),
            fit_along k (λ i. when (suc i)) (λ i. o (suc i)) (λ i. r (suc i)) P [] S (rw z at w.1),
          )
      fit_along (suc k) when o r P (d ∷ rest) S w =
          let z : r 0 ≡ record { answer = yielding d; cursor = there (λ cmp. up_to cmp d) } = w.0 ∙ goes (when 0) (o 0) P d rest S in (
            rw z (there_fits (λ cmp. up_to cmp d)),
            fit_along k (λ i. when (suc i)) (λ i. o (suc i)) (λ i. r (suc i)) (λ cmp. up_to cmp d) rest (stands_next P d rest S) (rw z at w.1),
          )

-- a listing at a root whose pages hold a good tree of exactly the datoms of u
module _
    (m : Moment) (in_good_order : bad_store (extent_of m.recorded) m.store ≡ false) (heap_in_order : bad_heap m.recorded.heap m.heap ≡ false)
    (order_known : is_unknown (index_of m.recorded.order) ≡ false)
    (root : PageId) (u : List Datom) (K : RootIs (at m) (extent_of m.recorded) m.store root u) (rising : Rising (at m).cmp u)
    (stored : (y : Datom) → In y u → (at m).stored y ≡ true) (lo hi : Datom) (a : (at m).bound lo ≡ true) (b : (at m).bound hi ≡ true)
  where
    abbrev t : DatomOrd
    t = at m

    abbrev f : PageId → Fetched
    f = fetches m

    abbrev ds : List Datom
    ds = within t.cmp lo hi u

    -- the start was answered, and its steps hand out the datoms between
    pub record ListsFrom (s : Started) : Type 0 where
      pub begun : s.answer ≡ has_begun
      pub hands :
          (when : ℕ → Moment) → ((i : ℕ) → GoesOn t f (when i)) → (n : ℕ) (r : ℕ → Stepped) → StepsAlong when n s.cursor r → length ds < n →
          handed n r ≡ whole ds
      pub fit :
          ReadSmall f → CursorFits s.cursor
          × ((when : ℕ → Moment) → ((i : ℕ) → GoesOn t f (when i)) → (n : ℕ) (r : ℕ → Stepped) → StepsAlong when n s.cursor r → AllFit n r)

    nothing_left : ds ≡ [] → ListsFrom (record { answer = has_begun; cursor = cursor_of [] [] })
    nothing_left z =
        record {
          begun = refl;
          hands = λ when o n r w h. still t f when o n r w (rw z at h) ∙ ap whole (sym z);
          fit = λ R. (cursor_fits [] [] (omega arith) (omega arith) tt tt, λ when o n r w. still_fit t f n when o r w);
        }

    none_in : (v : List Datom) → ((y : Datom) → In y v → ⊥) → within t.cmp lo hi v ≡ []
    unfolding within
    none_in [] z = refl
    none_in (d ∷ v) z = absurd (z d (inl refl))

    left : {tr : Tree} → is_less (t.cmp lo hi) ≡ true → Exactly (λ y. In y u) tr → Left t.cmp tr hi (below t.cmp lo) ds
    unfolding is_less
    left q ex =
        record {
          front = below_front t.cmp (at_laws m) lo;
          rising = within_rising t.cmp lo hi u rising;
          only = λ y j. let w = (within_in t.cmp lo hi u y).0 j in ((ex y).1 w.0, w.1, w.2);
          every = λ y j c d. (within_in t.cmp lo hi u y).1 ((ex y).0 j, c, d);
          under = λ y j c. below_front t.cmp (at_laws m) hi y lo (less t.cmp y lo c) (rw (less t.cmp lo hi q));
        }

    at_page :
        (n : Node) (tr : Tree) → is_less (t.cmp lo hi) ≡ true → f root ≡ fine n → Holds f (page n.level n.datoms n.children) tr →
        Good t.cmp tr → Exactly (λ y. In y u) tr → ListsFrom (start_at t.cmp f root lo hi (fine n))
    unfolding start_at join_paths
    at_page n tr q read h g ex =
        rw ((along f (below t.cmp lo) n.level root n tr h).way, (along f (below t.cmp hi) n.level root n tr h).way)
        (record {
          begun = refl;
          hands = λ when o k r w c. hands_out t (at_laws m) f n.level root n tr h g may here low hi b k when o r (λ cmp. below cmp lo) ds from w c;
          fit = λ R. (
            there_fits t (at_laws m) f n.level root n tr h g may here low hi b R (λ cmp. below cmp lo),
            λ when o k r w. fit_along t (at_laws m) f n.level root n tr h g may here low hi b R k when o r (λ cmp. below cmp lo) ds from w,
          );
        })
      where
        here : at_level n.level (f root) ≡ fine n
        here = rw read (at_own n.level n refl)

        low : n.level ≤ 7
        low = fetch_low t (extent_of m.recorded) m.store root n read

        may : (y : Datom) → InTree y tr → t.stored y ≡ true
        may y i = stored y ((ex y).0 i)

        from : Stands t (at_laws m) f n.level root n tr h g may here low hi b (λ cmp. below cmp lo) ds
        from = from_below t (at_laws m) f n.level root n tr h g may here low hi b lo a ds (left q ex)

    pub lists : ListsFrom (start_call m.recorded m.store m.heap root lo hi)
    unfolding start_list start_under
    lists =
        rw (
          start_call_law m.recorded m.store m.heap heap_in_order order_known root lo hi,
          in_good_order,
          a,
          b,
          root_known t (extent_of m.recorded) m.store root K.holds,
        )
        (side (is_less (t.cmp lo hi)) refl K.holds K.good K.exactly)
      where
        side :
            {l : ℕ} {tr : Tree} (v : Bool) → is_less (t.cmp lo hi) ≡ v → Holds f (child l root) tr → Good t.cmp tr →
            Exactly (λ y. In y u) tr →
            ListsFrom
            (cond (is_less (t.cmp lo hi) && not (is_none root)) (start_at t.cmp f root lo hi (f root)) (record { answer = has_begun; cursor = cursor_of [] [] }))
        side false q h g ex = rw q (nothing_left (within_none t.cmp (at_laws m) lo hi q u))
        side true q (no_page z) g ex = rw (q, z) (nothing_left (none_in u λ y j. (ex y).1 j))
        side true q (a_page {l} {n = nd} {t = tr} e z h) g ex =
            let read : f root ≡ fine nd = level_fine l (f root) nd z in
            rw (q, e, read) (at_page nd tr q read (rw (level_is l (f root) nd z) h) g ex)
