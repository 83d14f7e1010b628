-- One step of a listing over a good tree: it hands out the smallest datom that is left, or finds the end.
-- Rests on Step and Cursor.
use Rattle.answer.specs.Answers.{ended_step, yielding}
use Prim.Native.Nat.{ℕ, zero, suc, ◌≤◌, Ordering}
use Rattle.std.proofs.Common.{arith, inl, inr, ◌∙◌}
use Rattle.std.specs.Prelude.{Bool, List, [], ◌∷◌, map, ◌⊎◌, ◌≡◌, refl, ltb, length}
use Rattle.std.proofs.Math.Bool.{true, false}
use Rattle.std.proofs.Math.Path.{sym}
use borrow.Author.Tests.{eqb-true, eq-eqb, le-ltb}
use Rattle.std.proofs.lemmas.List.{length-map}
use Rattle.store.specs.declared.PageId.{PageId}
use Rattle.store.specs.declared.Extent.{Extent}
use Rattle.store.specs.Laws.{both}
use Rattle.datom.specs.declared.Datom.{Datom}
use Rattle.index.specs.Order.{DatomOrd, is_less}
use Rattle.index.proofs.Laws.{Preorder}
use Rattle.answer.specs.declared.Cursor.{Cursor}
use Rattle.rules.specs.Page.{Node}
use Rattle.rules.specs.Node.{rank_by, below}
use Rattle.rules.specs.Tree.{Fetched, fine, at_level}
use Rattle.rules.specs.Store.{bad_store, fetch_page}
use Rattle.rules.specs.Listing.{Frame, begin_frames, end_frames, cursor_of, frame_of, Least, same_indices, staying, moved, onward, step_list}
use Rattle.rules.specs.Lists.{In, Rising, less, turned}
use Rattle.history.specs.Order.{clash, is_true, is_false, same_test, up_to, Front, AtMost, up_false, up_above, same_below_law, one_way, not_self, below_front, up_front}
use Rattle.history.specs.Rank.{Stop, stop_fails}
use Rattle.history.specs.Tree.{Tree, blank, last, item, InTree, own, Good}
use Rattle.history.specs.Pages.{page, Holds, Stored, holds_own}
use Rattle.history.specs.Child.{child_by, child_stored, child_leaf, child_good, cover}
use Rattle.history.specs.Cursor.{frames_back}
use Rattle.history.specs.Step.{down, opens_by, along, frames_agree, LeastOk, is_nothing, is_least, step_ok}

-- the child is given by the index
child_rank : (p q : Datom → Bool) (t : Tree) → rank_by p (own t) ≡ rank_by q (own t) → child_by p t ≡ child_by q t
unfolding child_by rank_by
child_rank p q blank e = refl
child_rank p q (last t) e = refl
child_rank p q (item t d r) e = side (p d) refl (q d) refl (child_rank p q r)
  where
    side :
        (a : Bool) → p d ≡ a → (b : Bool) → q d ≡ b → (rank_by p (own r) ≡ rank_by q (own r) → child_by p r ≡ child_by q r) →
        child_by p (item t d r) ≡ child_by q (item t d r)
    side true u true v ih = let k : suc (rank_by p (own r)) ≡ suc (rank_by q (own r)) = rw (u, v, rank_by) at e in rw (u, v, child_by) (ih (omega arith))
    side true u false v ih = let k : suc (rank_by p (own r)) ≡ 0 = rw (u, v, rank_by) at e in absurd (omega arith)
    side false u true v ih = let k : 0 ≡ suc (rank_by q (own r)) = rw (u, v, rank_by) at e in absurd (omega arith)
    side false u false v ih = rw (u, v, child_by)

module _ (cmp : Datom → Datom → Ordering) (L : Preorder cmp) (f : PageId → Fetched) where
  -- two tests that stop at one datom of the page and agree on the child: where one passes the other does
  half :
      (p q : Datom → Bool) → Front cmp p → Front cmp q → (t : Tree) → Good cmp t → rank_by p (own t) ≡ rank_by q (own t) →
      ((x : Datom) → InTree x (child_by q t) → p x ≡ q x) → (x : Datom) → InTree x t → p x ≡ true → q x ≡ true
  half p q u v t g e a x i r = is_true (q x) λ n. out n (cover cmp L q v x t g i n)
    where
      out : q x ≡ false → InTree x (child_by q t) ⊎ ((y : Datom) × Stop q (own t) y × AtMost cmp y x) → ⊥
      out n (inl j) = clash n (rw (← a x j) r)
      out n (inr (y, h, inl c)) = clash (stop_fails p y (own t) (rw e h)) (rw (← c) r)
      out n (inr (y, h, inr c)) = clash (stop_fails p y (own t) (rw e h)) (u y x c r)

  -- equal indices: the tests agree on the tree
  ends_agree :
      (p q : Datom → Bool) → Front cmp p → Front cmp q → (l : ℕ) (r : PageId) (n : Node) (t : Tree) →
      Holds f (page l n.datoms n.children) t →
      Good cmp t → same_indices (map frame_of (opens_by f p l r (fine n))) (map frame_of (opens_by f q l r (fine n))) ≡ true →
      (x : Datom) → InTree x t → p x ≡ q x
  unfolding opens_by same_indices
  ends_agree p q u v zero r n t h g e x i =
      let k : rank_by p (own t) ≡ rank_by q (own t) = rw (holds_own h) (eqb-true (rank_by p n.datoms) (rank_by q n.datoms) (both _ true e).0) in
      same_test (p x) (q x) (half p q u v t g k (λ y j. absurd (child_leaf q y h j)) x i)
      (half q p v u t g (sym k) (λ y j. absurd (child_leaf p y h j)) x i)
  ends_agree p q u v (suc l) r n t h g e x i =
      let w = both _ _ e in
      let k₀ : rank_by p n.datoms ≡ rank_by q n.datoms = eqb-true (rank_by p n.datoms) (rank_by q n.datoms) w.0 in
      let k : rank_by p (own t) ≡ rank_by q (own t) = rw (holds_own h) k₀ in
      let s : Stored f l (down p n) (child_by p t) = child_stored p h in
      let a : (y : Datom) → InTree y (child_by p t) → p y ≡ q y =
      ends_agree p q u v l (down p n) s.node (child_by p t) s.holds (child_good cmp p t g) (rw (← k₀, s.read) at w.1) in
      same_test (p x) (q x) (half p q u v t g k (λ y j. a y (rw (child_rank p q t k) j)) x i) (half q p v u t g (sym k) (λ y j. sym (a y j)) x i)

same_self : (fs : List Frame) → same_indices fs fs ≡ true
unfolding same_indices
same_self [] = refl
same_self (a ∷ fs) = rw (eq-eqb a.at a.at refl, same_self fs)

-- what is left to hand out: the datoms of the tree that do not pass p and are below hi
pub record Left (cmp : Datom → Datom → Ordering) (t : Tree) (hi : Datom) (p : Datom → Bool) (rest : List Datom) : Type 0 where
  pub front : Front cmp p
  pub rising : Rising cmp rest
  pub only : (x : Datom) → In x rest → InTree x t × (p x ≡ false) × (below cmp hi x ≡ true)
  pub every : (x : Datom) → InTree x t → p x ≡ false → below cmp hi x ≡ true → In x rest
  pub under : (x : Datom) → InTree x t → p x ≡ true → below cmp hi x ≡ true

module _ (cmp : Datom → Datom → Ordering) (L : Preorder cmp) (t : Tree) (hi : Datom) where
  -- after a step
  pub left_next : (p : Datom → Bool) (d : Datom) (rest : List Datom) → Left cmp t hi p (d ∷ rest) → Left cmp t hi (up_to cmp d) rest
  unfolding is_less
  left_next p d rest c =
      record {
        front = up_front cmp L d;
        rising = c.rising.1;
        only = λ x i. ((c.only x (inr i)).0, up_false cmp (c.rising.0 x i), (c.only x (inr i)).2);
        every = λ x i a b. later x (up_above cmp d x a) (c.every x i (fails x (up_above cmp d x a)) b);
        under = λ x i a. reach x a (cmp d x) refl;
      }
    where
      fails : (x : Datom) → cmp d x ≡ Ordering.lt → p x ≡ false
      fails x a = is_false (p x) λ e. clash (c.only d (inl refl)).1 (c.front d x a e)

      later : (x : Datom) → cmp d x ≡ Ordering.lt → In x (d ∷ rest) → In x rest
      later x a (inl e) = absurd (not_self cmp L (sym e) a)
      later x a (inr i) = i

      top : cmp d hi ≡ Ordering.lt
      top = less cmp d hi (c.only d (inl refl)).2

      reach : (x : Datom) → up_to cmp d x ≡ true → (o : Ordering) → cmp d x ≡ o → below cmp hi x ≡ true
      reach x a Ordering.lt e = absurd (clash (up_false cmp e) a)
      reach x a Ordering.eq e = rw (same_below_law cmp L (turned cmp L e) top)
      reach x a Ordering.gt e = rw (L.trans x d hi (turned cmp L e) top)

module _
    (t : DatomOrd) (L : Preorder t.cmp) (x : Extent) (s : List ℕ) (in_good_order : bad_store x s ≡ false) (l : ℕ) (q : PageId) (n : Node) (tr : Tree)
    (h : Holds (fetch_page t x s) (page l n.datoms n.children) tr) (g : Good t.cmp tr) (read : at_level l (fetch_page t x s q) ≡ fine n)
    (low : l ≤ 7) (hi : Datom)
  where
    -- the frames of a test, and the cursor from there to the upper bound
    abbrev frames : (Datom → Bool) → List Frame
    frames p = map frame_of (opens_by (fetch_page t x s) p l q (fine n))

    abbrev cursor : (Datom → Bool) → Cursor
    cursor p = cursor_of (frames p) (frames (below t.cmp hi))

    long : (p : Datom → Bool) → length (frames p) ≡ suc l
    long p = length-map (opens_by (fetch_page t x s) p l q (fine n)) frame_of ∙ (along (fetch_page t x s) p l q n tr h).long

    begins : (p : Datom → Bool) → begin_frames (cursor p) ≡ frames p
    unfolding cursor_of
    begins p = frames_back (frames p)

    ends : (p : Datom → Bool) → end_frames (cursor p) ≡ frames (below t.cmp hi)
    unfolding cursor_of
    ends p = rw (long p, ← long (below t.cmp hi)) (frames_back (frames (below t.cmp hi)))

    short : (p : Datom → Bool) → ltb 8 (cursor p).height ≡ false
    unfolding cursor_of
    short p = le-ltb 8 (length (frames p)) (omega (arith, long p))

    pub at_end : (p : Datom → Bool) → Left t.cmp tr hi p [] → step_list t x s (cursor p) ≡ staying (cursor p) ended_step
    unfolding step_list
    at_end p c =
        rw (
          in_good_order,
          short p,
          begins p,
          ends p,
          frames_agree (fetch_page t x s) p (below t.cmp hi) l q n tr h agree,
          same_self (frames (below t.cmp hi)),
        )
      where
        agree : (y : Datom) → InTree y tr → p y ≡ below t.cmp hi y
        agree y i = same_test (p y) (below t.cmp hi y) (c.under y i) λ b. is_true (p y) λ a. c.every y i a b

    not_end :
        (p : Datom → Bool) (d : Datom) (rest : List Datom) → Left t.cmp tr hi p (d ∷ rest) →
        same_indices (frames p) (frames (below t.cmp hi)) ≡ false
    not_end p d rest c = is_false _ λ e.
        let o = c.only d (inl refl) in
        clash o.1 (ends_agree t.cmp L (fetch_page t x s) p (below t.cmp hi) c.front (below_front t.cmp L hi) l q n tr h g e d o.0 ∙ o.2)

    pub goes_on :
        (p : Datom → Bool) (d : Datom) (rest : List Datom) → Left t.cmp tr hi p (d ∷ rest) →
        step_list t x s (cursor p) ≡ record { answer = yielding d; cursor = cursor (up_to t.cmp d) }
    unfolding step_list onward moved
    goes_on p d rest c =
        rw (in_good_order, short p, begins p, ends p, not_end p d rest c, (along (fetch_page t x s) p l q n tr h).opens read)
        (side _ (step_ok t.cmp L (fetch_page t x s) p c.front l q n tr h g))
      where
        side :
            (b : Least) → LeastOk t.cmp (fetch_page t x s) p l q n tr b →
            moved (cursor p) b ≡ record { answer = yielding d; cursor = cursor (up_to t.cmp d) }
        side b (is_nothing a) = absurd (clash (c.only d (inl refl)).1 (a d (c.only d (inl refl)).0))
        side b (is_least e i k a) =
            let o = c.only d (inl refl) in
            let z : e ≡ d = same (a d o.0 o.1) in
            rw ((along (fetch_page t x s) (up_to t.cmp e) l q n tr h).way, ends p, z)
          where
            back : t.cmp e d ≡ Ordering.lt → In e (d ∷ rest) → e ≡ d
            back u (inl v) = v
            back u (inr v) = absurd (one_way t.cmp L u (c.rising.0 e v))

            same : AtMost t.cmp e d → e ≡ d
            same (inl u) = sym u
            same (inr u) = back u (c.every e i k (below_front t.cmp L hi e d u (c.only d (inl refl)).2))
