-- Lookup meets a datom exactly if the tree has one that is equal to it, and the lookups of a batch find the first of it that is there.
-- Rests on Child.
use Prim.Native.Nat.{ℕ, zero, suc, ◌+◌, Ordering}
use Rattle.std.proofs.Common.{arith, ap}
use Rattle.std.specs.Prelude.{Bool, ◌⊎◌, ◌≡◌, length}
use Rattle.std.proofs.Math.Bool.{true, false}
use mathlib.Core.List.{List, [], ◌∷◌, ◌++◌}
use Rattle.std.proofs.Math.Logic.{inl, inr}
use Rattle.std.proofs.Math.Path.{refl}
use Rattle.std.proofs.Math.ListN.{drop}
use Rattle.store.specs.declared.PageId.{PageId}
use Rattle.store.specs.Laws.{apart}
use Rattle.datom.specs.declared.Datom.{Datom}
use Rattle.index.specs.Order.{is_less, is_same}
use Rattle.index.proofs.Laws.{Preorder}
use Rattle.answer.specs.declared.Refusal.TheVariants.{Repeated}
use Rattle.rules.specs.Page.{Node}
use Rattle.rules.specs.Node.{rank_by, below, head_same}
use Rattle.rules.specs.Tree.{fine, Env, fetch_at}
use Rattle.rules.specs.Lookup.{Look, met, absent, lookup, Finding, clear, found, after_look, lookup_all}
use Rattle.rules.specs.Lists.{In, turned}
use Rattle.history.specs.Order.{clash, AtMost, below_same, below_front}
use Rattle.history.specs.Rank.{head_in, Stop, stop_fails}
use Rattle.history.specs.Tree.{Tree, InTree, own, Good, own_in, Apart}
use Rattle.history.specs.Pages.{page, Holds, Stored, holds_own}
use Rattle.history.specs.Child.{child_by, child_at, child_stored, child_leaf, child_in, child_good, cover}

-- the tree has a datom equal to d
abbrev pub Has : (Datom → Datom → Ordering) → Datom → Tree → Type 0
Has cmp d t = (x : Datom) × InTree x t × (cmp x d ≡ Ordering.eq)

pub data Looked (cmp : Datom → Datom → Ordering) (d : Datom) (t : Tree) : Look → Type 0 where
  is_met : {p : PageId} {i : ℕ} → Has cmp d t → Looked cmp d t (met p i)
  is_absent : {p : PageId} → (Has cmp d t → ⊥) → Looked cmp d t (absent p)

-- whether the first datom not below the one sought is equal to it
abbrev at_first : (Datom → Datom → Ordering) → Datom → List Datom → Bool
at_first cmp d ds = head_same cmp d (drop (rank_by (below cmp d) ds) ds)

module _ (cmp : Datom → Datom → Ordering) (L : Preorder cmp) (d : Datom) where
  -- it is, so the tree has an equal one; or the child decides
  data Found (t : Tree) : Bool → Type 0 where
    here : Has cmp d t → Found t true
    further : (Has cmp d t → Has cmp d (child_by (below cmp d) t)) → Found t false

  into :
      (t : Tree) → Good cmp t → ((y : Datom) → Stop (below cmp d) (own t) y → cmp y d ≡ Ordering.eq → ⊥) → Has cmp d t →
      Has cmp d (child_by (below cmp d) t)
  unfolding is_less
  into t g never (x, i, e) = side (cover cmp L (below cmp d) (below_front cmp L d) x t g i (rw e))
    where
      side :
          InTree x (child_by (below cmp d) t) ⊎ ((y : Datom) × Stop (below cmp d) (own t) y × AtMost cmp y x) →
          Has cmp d (child_by (below cmp d) t)
      side (inl j) = (x, j, e)
      side (inr (y, h, inl q)) = absurd (never y h (rw (← q) e))
      side (inr (y, h, inr q)) = absurd (clash (stop_fails (below cmp d) y (own t) h) (rw (below_same cmp L q e)))

  find : (t : Tree) → Good cmp t → Found t (at_first cmp d (own t))
  unfolding head_same is_same
  find t g = side (drop (rank_by (below cmp d) (own t)) (own t)) refl
    where
      side : (ys : List Datom) → drop (rank_by (below cmp d) (own t)) (own t) ≡ ys → Found t (at_first cmp d (own t))
      side [] e = rw e (further (into t g λ y h q. rw e at h))
      side (y ∷ ys) e = rw e (same (cmp y d) refl)
        where
          same : (o : Ordering) → cmp y d ≡ o → Found t (is_same (cmp y d))
          same Ordering.lt q = rw q (further (into t g λ x h k. let z : x ≡ y = rw e at h in apart (cc)))
          same Ordering.eq q = rw q (here (y, own_in y t (head_in y (rank_by (below cmp d) (own t)) (own t) (rw e refl)), q))
          same Ordering.gt q = rw q (further (into t g λ x h k. let z : x ≡ y = rw e at h in apart (cc)))

  up :
      {t : Tree} {k : Look} → (Has cmp d t → Has cmp d (child_by (below cmp d) t)) → Looked cmp d (child_by (below cmp d) t) k →
      Looked cmp d t k
  up {t} f (is_met (x, i, q)) = is_met (x, child_in (below cmp d) x t i, q)
  up f (is_absent a) = is_absent λ j. a (f j)

module _ (e : Env) (L : Preorder e.cmp) (d : Datom) where
  pub lookup_ok :
      (l : ℕ) (p : PageId) (n : Node) (t : Tree) → Good e.cmp t → Holds e.fetch (page l n.datoms n.children) t →
      Looked e.cmp d t (lookup e d l p (fine n))
  unfolding lookup fetch_at
  lookup_ok zero p n t g h = side (at_first e.cmp d n.datoms) refl (rw (holds_own h) at (find e.cmp L d t g))
    where
      side : (b : Bool) → at_first e.cmp d n.datoms ≡ b → Found e.cmp L d t b → Looked e.cmp d t (lookup e d zero p (fine n))
      side true q (here k) = rw q (is_met k)
      side false q (further k) = rw q (is_absent λ a. child_leaf (below e.cmp d) (k a).0 h (k a).1)
  lookup_ok (suc l) p n t g h =
      side (at_first e.cmp d n.datoms) refl (rw (holds_own h) at (find e.cmp L d t g))
      (lookup_ok l (child_at (below e.cmp d) n.datoms n.children) s.node _ (child_good e.cmp (below e.cmp d) t g) s.holds)
    where
      s : Stored e.fetch l (child_at (below e.cmp d) n.datoms n.children) (child_by (below e.cmp d) t)
      s = child_stored (below e.cmp d) h

      side :
          (b : Bool) → at_first e.cmp d n.datoms ≡ b → Found e.cmp L d t b →
          Looked e.cmp d (child_by (below e.cmp d) t) (lookup e d l (child_at (below e.cmp d) n.datoms n.children) (fine s.node)) →
          Looked e.cmp d t (lookup e d (suc l) p (fine n))
      side true q (here k) ih = rw (q, lookup) (is_met k)
      side false q (further k) ih = rw (q, lookup, s.read) (up e.cmp L d k ih)

-- the lookups of a batch: none of it is in the tree, or the first that is
pub data Lookups (cmp : Datom → Datom → Ordering) (tr : Tree) (i : ℕ) (b : List Datom) : Finding → Type 0 where
  none_met : Apart cmp b tr → Lookups cmp tr i b clear
  some_met :
      {j : ℕ} (before : List Datom) (d : Datom) (rest : List Datom) → b ≡ before ++ (d ∷ rest) → length before + i ≡ j → Has cmp d tr →
      ((y : Datom) → In y before → Has cmp y tr → ⊥) → Lookups cmp tr i b (found (Repeated j))

module _ (e : Env) (L : Preorder e.cmp) (l : ℕ) (root : PageId) (n : Node) (tr : Tree) (g : Good e.cmp tr)
    (h : Holds e.fetch (page l n.datoms n.children) tr)
  where
    pub lookups_ok : (i : ℕ) (b : List Datom) → Lookups e.cmp tr i b (lookup_all e l root (fine n) i b)
    unfolding lookup_all after_look
    lookups_ok i [] = none_met λ y z j. absurd j
    lookups_ok i (d ∷ b) = side (lookup e d l root (fine n)) (lookup_ok e L d l root n tr g h) (lookups_ok (suc i) b)
      where
        more : {f : Finding} → (Has e.cmp d tr → ⊥) → Lookups e.cmp tr (suc i) b f → Lookups e.cmp tr i (d ∷ b) f
        more a (none_met w) = none_met λ y z j k q. elim j [ inl v ↦ a (z, k, rw v at (turned e.cmp L q)) | inr v ↦ w y z v k q ]
        more a (some_met {j} before x rest p q m w) =
            let z : suc (length before) + i ≡ j = omega (arith, q) in
            some_met (d ∷ before) x rest (ap (d ∷◌) p) z m λ y v k. elim v [ inl h ↦ a (rw h at k) | inr h ↦ w y h k ]

        side :
            (k : Look) → Looked e.cmp d tr k → Lookups e.cmp tr (suc i) b (lookup_all e l root (fine n) (suc i) b) →
            Lookups e.cmp tr i (d ∷ b) (after_look i k (lookup_all e l root (fine n) (suc i) b))
        side k (is_met a) w = some_met {j = i} [] d b refl (omega arith) a λ y j. absurd j
        side k (is_absent a) w = more a w
