-- One step of a listing: from the frames that a test gives it takes the least datom that does not pass, and the frames that it leaves
-- are those of the test "not above it". Rests on Child.
use Prim.Native.Nat.{ℕ, zero, suc, ◌<◌, Ordering}
use native.Mathlib.Omega.{arith}
use Rattle.std.specs.Prelude.{Bool, ◌⊎◌, ◌≡◌, drop, get_or}
use Rattle.std.proofs.Math.Bool.{true, false}
use mathlib.Core.List.{List, [], ◌∷◌, map}
use Rattle.std.proofs.Math.Logic.{inl, inr}
use Rattle.std.proofs.Math.Path.{refl, sym, subst}
use Rattle.std.proofs.Common.{◌∙◌, ap}
use borrow.Author.Tests.{le-leb}
use Rattle.std.proofs.Math.ListN.{length}
use Rattle.std.proofs.lemmas.List.{length-map}
use Rattle.store.specs.declared.PageId.{PageId}
use Rattle.store.specs.Page.{none, is_none}
use Rattle.datom.specs.declared.Datom.{Datom}
use Rattle.index.proofs.Laws.{Preorder}
use Rattle.rules.specs.Page.{Node}
use Rattle.rules.specs.Node.{rank_by, is_midpoint, next_midpoint}
use Rattle.rules.specs.Tree.{Fetched, faulty, fine, at_level}
use Rattle.rules.specs.Listing.{Path, path, longer, path_by, never, Open, frame_of, opened, open_one, open_frames, Least, none_left, least, after, taking, choose, least_of}
use Rattle.rules.specs.Lists.{Rising, turned, rank_most}
use Rattle.history.specs.Order.{clash, is_true, up_to, Front, AtMost, not_both, up_false, up_true, one_way, not_self, lower}
use Rattle.history.specs.Rank.{Head, head_in, Stop, stop_fails, stop_short, rank_agree, rank_next, own_cover}
use Rattle.history.specs.Tree.{Tree, blank, last, item, InTree, own, Good, own_in, own_rising}
use Rattle.history.specs.Pages.{page, Holds, h_last, h_item, Stored, holds_own, holds_lengths, child_real}
use Rattle.history.specs.Child.{child_by, first_child, next_child, child_at, child_stored, child_leaf, or_in, first_in, child_in, child_good, cover}

-- beside a pending datom the next child stays
same_child :
    (cs : List PageId) (i : ℕ) → is_none (get_or cs i none) ≡ true → i < length cs → next_child (drop i cs) ≡ next_child (drop (suc i) cs)
unfolding next_midpoint
same_child [] i e k = absurd (omega arith)
same_child (c ∷ cs) zero e k = rw (e, next_midpoint)
same_child (c ∷ cs) (suc i) e k = same_child cs i e (omega arith)

-- the child of a page past the datoms that pass, and the page opened there
abbrev pub down : (Datom → Bool) → Node → PageId
down p n = child_at p n.datoms n.children

abbrev opening : (Datom → Bool) → PageId → Node → Open
opening p q n = record { at = rank_by p n.datoms; page = q; node = n }

-- the frames of a test with their nodes
unfoldable pub opens_by : (PageId → Fetched) → (Datom → Bool) → ℕ → PageId → Fetched → List Open
opens_by f p zero q (faulty x) = []
opens_by f p zero q (fine n) = opening p q n ∷ []
opens_by f p (suc l) q (faulty x) = []
opens_by f p (suc l) q (fine n) = opening p q n ∷ opens_by f p l (down p n) (at_level l (f (down p n)))

-- where the pages hold a tree there is one frame for each level, these are the frames of the path, and they can be opened again
pub record Along (f : PageId → Fetched) (p : Datom → Bool) (l : ℕ) (q : PageId) (n : Node) : Type 0 where
  pub long : length (opens_by f p l q (fine n)) ≡ suc l
  pub way : path_by f p l q (fine n) ≡ path (map frame_of (opens_by f p l q (fine n)))
  pub opens : at_level l (f q) ≡ fine n → open_frames f (map frame_of (opens_by f p l q (fine n))) ≡ opened (opens_by f p l q (fine n))

module _ (f : PageId → Fetched) (p : Datom → Bool) where
  pub along : (l : ℕ) (q : PageId) (n : Node) (t : Tree) → Holds f (page l n.datoms n.children) t → Along f p l q n
  unfolding opens_by path_by open_frames open_one
  along zero q n t h =
      record { long = refl; way = refl; opens = λ e. rw (e, le-leb (rank_by p n.datoms) (length n.datoms) (rank_most p n.datoms)) }
  along (suc l) q n t h = more (along l (down p n) s.node (child_by p t) s.holds)
    where
      s : Stored f l (down p n) (child_by p t)
      s = child_stored p h

      more : Along f p l (down p n) s.node → Along f p (suc l) q n
      more a =
          record {
            long = rw s.read (ap suc a.long);
            way = rw s.read (ap (longer (record { at = rank_by p n.datoms; page = q })) a.way);
            opens = λ e.
                let os = opens_by f p l (down p n) (fine s.node) in
                let k : length (map frame_of os) ≡ suc l = length-map os frame_of ∙ a.long in
                rw (s.read, k, e, le-leb (rank_by p n.datoms) (length n.datoms) (rank_most p n.datoms), a.opens s.read);
          }

-- only what the test says of the tree's datoms counts
pub path_agree :
    (f : PageId → Fetched) (p q : Datom → Bool) (l : ℕ) (r : PageId) (n : Node) (t : Tree) → Holds f (page l n.datoms n.children) t →
    ((x : Datom) → InTree x t → p x ≡ q x) → path_by f p l r (fine n) ≡ path_by f q l r (fine n)
unfolding path_by
path_agree f p q zero r n t h a = rw (rank_agree p q n.datoms (λ x i. a x (own_in x t (rw (holds_own h) i))))
path_agree f p q (suc l) r n t h a =
    let s : Stored f l (down p n) (child_by p t) = child_stored p h in
    let e : rank_by p n.datoms ≡ rank_by q n.datoms = rank_agree p q n.datoms (λ x i. a x (own_in x t (rw (holds_own h) i))) in
    let k : path_by f p l (down p n) (fine s.node) ≡ path_by f q l (down p n) (fine s.node) =
    path_agree f p q l (down p n) s.node (child_by p t) s.holds (λ x i. a x (child_in p x t i)) in
    rw (← e, s.read, k)

pub frames_agree :
    (f : PageId → Fetched) (p q : Datom → Bool) (l : ℕ) (r : PageId) (n : Node) (t : Tree) → Holds f (page l n.datoms n.children) t →
    ((x : Datom) → InTree x t → p x ≡ q x) → map frame_of (opens_by f p l r (fine n)) ≡ map frame_of (opens_by f q l r (fine n))
frames_agree f p q l r n t h a = cc ((along f p l r n t h).way, (along f q l r n t h).way, path_agree f p q l r n t h a)

module _ (cmp : Datom → Datom → Ordering) (L : Preorder cmp) where
  -- what is in the child is never equal to the first datom of the page that does not pass
  child_apart :
      (p : Datom → Bool) (d x : Datom) (t : Tree) → Good cmp t → InTree d (child_by p t) → Stop p (own t) x → cmp d x ≡ Ordering.eq → ⊥
  unfolding child_by rank_by
  child_apart p d x blank g i h = absurd i
  child_apart p d x (last t) g i h = absurd h
  child_apart p d x (item t e r) g i h = side (p e) refl (child_apart p d x r g.2)
    where
      side : (b : Bool) → p e ≡ b → (InTree d (child_by p r) → Stop p (own r) x → cmp d x ≡ Ordering.eq → ⊥) → cmp d x ≡ Ordering.eq → ⊥
      side true q ih = ih (rw (q, child_by) at i) (rw (q, rank_by) at h)
      side false q ih =
          let k : x ≡ e = rw (q, rank_by) at h in
          rw k
          (elim (or_in d t (first_child r) (rw (q, child_by) at i))
          [ inl j ↦ not_both cmp (g.0.left d j) | inr j ↦ λ z. g.0.apart d (first_in d r j) (turned cmp L z) ])

  -- behind a midpoint that is taken everything is above it
  child_after :
      {f : PageId → Fetched} {l : ℕ} {ds : List Datom} {cs : List PageId} {t : Tree} (p : Datom → Bool) (x z : Datom) →
      Holds f (page (suc l) ds cs) t → Good cmp t → Stop p ds x → is_none (get_or cs (rank_by p ds) none) ≡ false →
      InTree z (child_by (up_to cmp x) t) → cmp x z ≡ Ordering.lt
  unfolding child_by rank_by
  child_after p x z (h_last k e) g s n i = absurd s
  child_after p x z (h_item {c} {t} {ds} {cs} {r} d k h) g s n i = side (p d) refl (child_after p x z h g.2)
    where
      side :
          (b : Bool) → p d ≡ b →
          (Stop p ds x → is_none (get_or cs (rank_by p ds) none) ≡ false → InTree z (child_by (up_to cmp x) r) → cmp x z ≡ Ordering.lt) →
          cmp x z ≡ Ordering.lt
      side true e ih =
          let u : Stop p ds x = rw (e, rank_by) at s in
          let v : up_to cmp x d ≡ true = up_true cmp (one_way cmp L (g.0.next x (rw (holds_own h) (head_in x (rank_by p ds) ds u)))) in
          ih u (rw (e, rank_by) at n) (rw (v, child_by) at i)
      side false e ih =
          let u : x ≡ d = rw (e, rank_by) at s in
          let v : up_to cmp x d ≡ true = up_true cmp (not_self cmp L u) in
          rw u (g.0.right (child_real k (rw (e, rank_by) at n)) z (child_in (up_to cmp x) z r (rw (v, child_by) at i)))

-- the least datom under the frames of a test
pub data LeastOk
    (cmp : Datom → Datom → Ordering) (f : PageId → Fetched) (p : Datom → Bool) (l : ℕ) (q : PageId) (n : Node) (t : Tree)
    : Least → Type 0 where
  is_nothing : ((x : Datom) → InTree x t → p x ≡ true) → LeastOk cmp f p l q n t none_left
  is_least :
      (d : Datom) → InTree d t → p d ≡ false → ((x : Datom) → InTree x t → p x ≡ false → AtMost cmp d x) →
      LeastOk cmp f p l q n t (least d (path_by f (up_to cmp d) l q (fine n)))

module _ (cmp : Datom → Datom → Ordering) (L : Preorder cmp) (f : PageId → Fetched) (p : Datom → Bool) (w : Front cmp p) where
  -- once d is taken, "not above it" says what p said, of all that p let pass and of all above d
  passed : {d z : Datom} → p d ≡ false → (p z ≡ false → cmp d z ≡ Ordering.lt) → p z ≡ up_to cmp d z
  passed {d} {z} a b = side (p z) refl
    where
      side : (v : Bool) → p z ≡ v → p z ≡ up_to cmp d z
      side true e = e ∙ sym (up_true cmp λ q. clash a (w d z q e))
      side false e = e ∙ sym (up_false cmp (b e))

  leaf_case :
      (q : PageId) (n : Node) (t : Tree) → Holds f (page 0 n.datoms n.children) t → Good cmp t → (zs : List Datom) →
      drop (rank_by p n.datoms) n.datoms ≡ zs → LeastOk cmp f p 0 q n t (choose f cmp (opening p q n) [] zs none_left)
  unfolding choose after path_by
  leaf_case q n t h g [] e = is_nothing λ x i. is_true (p x) λ k. out (rw (holds_own h, e) at (cover cmp L p w x t g i k))
    where
      out : {x : Datom} → InTree x (child_by p t) ⊎ ((y : Datom) × ⊥ × AtMost cmp y x) → ⊥
      out {x} (inl i) = child_leaf p x h i
      out (inr (y, b, _)) = b
  leaf_case q n t h g (x ∷ xs) e =
      subst (λ (i : ℕ). LeastOk cmp f p 0 q n t (least x (path (record { at = i; page = q } ∷ []))))
      (rank_next cmp L p x n.datoms (rw (holds_own h) at (own_rising cmp t g)) k)
      (is_least x (own_in x t (rw (holds_own h) (head_in x (rank_by p n.datoms) n.datoms k))) (stop_fails p x n.datoms k)
      λ z i v. out (rw (holds_own h, e) at (cover cmp L p w z t g i v)))
    where
      k : Stop p n.datoms x
      k = rw e refl

      out : {z : Datom} → InTree z (child_by p t) ⊎ ((y : Datom) × (y ≡ x) × AtMost cmp y z) → AtMost cmp x z
      out {z} (inl i) = absurd (child_leaf p z h i)
      out (inr (y, b, a)) = rw b at a

  module _
      (l : ℕ) (q : PageId) (n : Node) (t : Tree) (h : Holds f (page (suc l) n.datoms n.children) t) (g : Good cmp t) (m : Node)
      (read : at_level l (f (down p n)) ≡ fine m) (hk : Holds f (page l m.datoms m.children) (child_by p t))
    where
      rising : Rising cmp n.datoms
      rising = rw (holds_own h) at (own_rising cmp t g)

      covers : (z : Datom) → InTree z t → p z ≡ false → InTree z (child_by p t) ⊎ ((y : Datom) × Stop p n.datoms y × AtMost cmp y z)
      covers z i k = rw (holds_own h) at (cover cmp L p w z t g i k)

      -- the child's datom is taken
      keep_case :
          (d : Datom) → InTree d (child_by p t) → p d ≡ false → ((x : Datom) → InTree x (child_by p t) → p x ≡ false → AtMost cmp d x) →
          ((y : Datom) → Stop p n.datoms y → cmp d y ≡ Ordering.lt) →
          LeastOk cmp f p (suc l) q n t
          (least d (longer (record { at = rank_by p n.datoms; page = q }) (path_by f (up_to cmp d) l (down p n) (fine m))))
      unfolding path_by
      keep_case d i k a b =
          subst (λ (s : Path). LeastOk cmp f p (suc l) q n t (least d s)) same
          (is_least d (child_in p d t i) k
          λ z j r. elim (covers z j r) [ inl u ↦ a z u r | inr u ↦ inr (lower cmp L (b u.0 u.1) u.2) ])
        where
          agree : rank_by (up_to cmp d) n.datoms ≡ rank_by p n.datoms
          agree =
              sym (rank_agree p (up_to cmp d) n.datoms λ z j. passed k λ r.
              let c = own_cover cmp L p z n.datoms rising j r in lower cmp L (b c.0 c.1) c.2)

          same :
              path_by f (up_to cmp d) (suc l) q (fine n)
              ≡ longer (record { at = rank_by p n.datoms; page = q }) (path_by f (up_to cmp d) l (down p n) (fine m))
          same = rw (agree, read)

      -- the page's own datom is taken
      module _ (x : Datom) (k : Stop p n.datoms x) (a : (z : Datom) → InTree z (child_by p t) → p z ≡ false → cmp x z ≡ Ordering.lt) where
        next : rank_by (up_to cmp x) n.datoms ≡ suc (rank_by p n.datoms)
        next = rank_next cmp L p x n.datoms rising k

        abbrev following : PageId
        following = next_child (drop (suc (rank_by p n.datoms)) n.children)

        kid : Stored f l following (child_by (up_to cmp x) t)
        kid = rw next at (child_stored (up_to cmp x) h)

        after_ok :
            (os : List Open) → length os ≡ suc l → path (map frame_of os) ≡ path_by f p l (down p n) (fine m) →
            after f (opening p q n) os ≡ path_by f (up_to cmp x) l following (at_level l (f following))
        unfolding after is_midpoint
        after_ok [] e v = absurd (omega arith)
        after_ok (b ∷ bs) e v = side (is_none (get_or n.children (rank_by p n.datoms) none)) refl
          where
            len : length bs ≡ l
            len = omega arith

            side :
                (c : Bool) → is_none (get_or n.children (rank_by p n.datoms) none) ≡ c →
                after f (opening p q n) (b ∷ bs) ≡ path_by f (up_to cmp x) l following (at_level l (f following))
            side true u =
                let c : down p n ≡ following =
                same_child n.children (rank_by p n.datoms) u (omega (arith, stop_short p x n.datoms k, holds_lengths h)) in
                rw (u, after, ← c, read)
                (v ∙ path_agree f p (up_to cmp x) l (down p n) m (child_by p t) hk (λ z i. passed (stop_fails p x n.datoms k) (a z i)))
            side false u =
                rw (u, after, len, kid.read)
                (path_agree f never (up_to cmp x) l following kid.node (child_by (up_to cmp x) t) kid.holds
                (λ z i. sym (up_false cmp (child_after cmp L p x z h g k u i))))

        take_case : LeastOk cmp f p (suc l) q n t (taking f (opening p q n) (opens_by f p l (down p n) (fine m)) x)
        unfolding path_by
        take_case =
            let A = along f p l (down p n) m (child_by p t) hk in
            rw (after_ok (opens_by f p l (down p n) (fine m)) A.long (sym A.way))
            (subst (λ (s : Path). LeastOk cmp f p (suc l) q n t (least x s)) same
            (is_least x (own_in x t (rw (holds_own h) (head_in x (rank_by p n.datoms) n.datoms k))) (stop_fails p x n.datoms k)
            λ z j r. elim (covers z j r) [
              | inl u ↦ inr (a z u r)
              | inr u ↦ rw (one (drop (rank_by p n.datoms) n.datoms) u.1 k) at u.2
            ]))
          where
            same :
                path_by f (up_to cmp x) (suc l) q (fine n)
                ≡ longer (record { at = suc (rank_by p n.datoms); page = q }) (path_by f (up_to cmp x) l following (at_level l (f following)))
            same = rw next

            one : {y : Datom} (ds : List Datom) → Head y ds → Head x ds → y ≡ x
            one [] b c = absurd b
            one (d ∷ ds) b c = b ∙ sym c

      node_case :
          (zs : List Datom) → drop (rank_by p n.datoms) n.datoms ≡ zs → (b : Least) → LeastOk cmp f p l (down p n) m (child_by p t) b →
          LeastOk cmp f p (suc l) q n t (choose f cmp (opening p q n) (opens_by f p l (down p n) (fine m)) zs b)
      unfolding choose
      node_case [] e b (is_nothing a) = is_nothing λ x i. is_true (p x) λ k. out x (rw e at (covers x i k)) k
        where
          out : (x : Datom) → InTree x (child_by p t) ⊎ ((y : Datom) × ⊥ × AtMost cmp y x) → p x ≡ false → ⊥
          out x (inl i) k = clash k (a x i)
          out x (inr (y, c, _)) k = c
      node_case [] e b (is_least d i k a) = keep_case d i k a λ y c. absurd (rw e at c)
      node_case (x ∷ xs) e b (is_nothing a) = take_case x (rw e refl) λ z i k. absurd (clash k (a z i))
      node_case (x ∷ xs) e b (is_least d i k a) = side (cmp d x) refl
        where
          s : Stop p n.datoms x
          s = rw e refl

          side :
              (o : Ordering) → cmp d x ≡ o →
              LeastOk cmp f p (suc l) q n t
              (choose f cmp (opening p q n) (opens_by f p l (down p n) (fine m)) (x ∷ xs) (least d (path_by f (up_to cmp d) l (down p n) (fine m))))
          side Ordering.lt u = rw (u, choose) (keep_case d i k a λ y c. let v : y ≡ x = rw e at c in rw v u)
          side Ordering.eq u = absurd (child_apart cmp L p d x t g i (rw (holds_own h) s) u)
          side Ordering.gt u = rw (u, choose) (take_case x s λ z j r. lower cmp L (turned cmp L u) (a z j r))

  pub step_ok :
      (l : ℕ) (q : PageId) (n : Node) (t : Tree) → Holds f (page l n.datoms n.children) t → Good cmp t →
      LeastOk cmp f p l q n t (least_of f cmp (opens_by f p l q (fine n)))
  unfolding opens_by least_of
  step_ok zero q n t h g = leaf_case q n t h g (drop (rank_by p n.datoms) n.datoms) refl
  step_ok (suc l) q n t h g =
      let s : Stored f l (down p n) (child_by p t) = child_stored p h in
      rw s.read
      (node_case l q n t h g s.node s.read s.holds (drop (rank_by p n.datoms) n.datoms) refl _
      (step_ok l (down p n) s.node (child_by p t) s.holds (child_good cmp p t g)))
