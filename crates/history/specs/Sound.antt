-- The check finds no fault in pages that hold a good tree. Rests on Tree and Pages.
use Rattle.answer.specs.Answers.{is_sound}
use Rattle.std.specs.Prelude.{Ok}
use Prim.Native.Nat.{ℕ, zero, suc, Ordering}
use Rattle.std.specs.Prelude.{Bool, List, ◌≡◌}
use Rattle.std.proofs.Math.Bool.{true, false}
use Rattle.std.proofs.Common.{inl, inr}
use Rattle.std.proofs.Math.Option.{Option, none as nothing, some}
use Rattle.std.proofs.Math.Path.{refl}
use Rattle.store.specs.declared.PageId.{PageId}
use Rattle.store.specs.Page.{is_none}
use Rattle.datom.specs.declared.Datom.{Datom}
use Rattle.index.specs.Order.{is_less}
use Rattle.rules.specs.Page.{Node}
use Rattle.rules.specs.Tree.{Fetched, fine, at_level}
use Rattle.rules.specs.Check.{above_lower, below_upper, Under, check_child, midpoint_next, walk, check_at}
use Rattle.rules.specs.Lists.{In}
use Rattle.history.specs.Order.{clash}
use Rattle.history.specs.Tree.{Tree, InTree, own, Good, own_in}
use Rattle.history.specs.Pages.{page, child, Holds, no_page, a_page, h_last, h_item, child_real}

-- a tree between two bounds that may be missing
record Bounded (cmp : Datom → Datom → Ordering) (lower upper : Option Datom) (t : Tree) : Type 0 where
  lows : (x : Datom) → InTree x t → above_lower cmp lower x ≡ true
  highs : (x : Datom) → InTree x t → below_upper cmp (some x) upper ≡ true
  apart : below_upper cmp lower upper ≡ true

module _ (cmp : Datom → Datom → Ordering) (f : PageId → Fetched) where
  -- a check of the children that finds no fault
  abbrev Sounds : ℕ → Under → Type 0
  Sounds l under =
      (c : PageId) (k : Tree) (lower upper : Option Datom) → Holds f (child l c) k → is_none c ≡ false → Good cmp k →
      Bounded cmp lower upper k →
      under c lower upper ≡ is_sound

  module _ (l : ℕ) (under : Under) (ok : Sounds l under) (p : PageId) (upper : Option Datom) where
    child_sound :
        (c : PageId) (k : Tree) (lower upper : Option Datom) → Holds f (child l c) k → Good cmp k → Bounded cmp lower upper k →
        check_child under c lower upper ≡ is_sound
    unfolding check_child
    child_sound c k lower upper h g b = side (is_none c) refl
      where
        side : (v : Bool) → is_none c ≡ v → check_child under c lower upper ≡ is_sound
        side true e = rw e
        side false e = rw e (ok c k lower upper h e g b)

    walk_sound :
        {ds : List Datom} {cs : List PageId} {tr : Tree} (lower midpoint : Option Datom) → Holds f (page l ds cs) tr → Good cmp tr →
        ((x : Datom) → In x (own tr) → above_lower cmp lower x ≡ true) → below_upper cmp lower upper ≡ true → Bounded cmp midpoint upper tr →
        walk cmp under p ds cs lower midpoint upper ≡ is_sound
    unfolding walk midpoint_next above_lower below_upper is_less
    walk_sound lower midpoint (h_last {c} {t} k e) g a u b =
        rw (u, child_sound c t midpoint upper k g (record { lows = b.lows; highs = b.highs; apart = b.apart }))
    walk_sound lower midpoint (h_item {c} {t} {ds} {cs} {r} d k h) g a u b =
        rw (a d (inl refl), walk, child_sound c t midpoint (some d) k g.1 before)
        (walk_sound (some d) (midpoint_next c midpoint d) h g.2 (λ x i. rw (g.0.next x i)) (b.highs d (inr (inl refl))) behind)
      where
        before : Bounded cmp midpoint (some d) t
        before =
            record { lows = λ x i. b.lows x (inl i); highs = λ x i. rw (g.0.left x i); apart = b.lows d (inr (inl refl)) }

        behind : Bounded cmp (midpoint_next c midpoint d) upper r
        behind = side (is_none c) refl
          where
            side : (v : Bool) → is_none c ≡ v → Bounded cmp (midpoint_next c midpoint d) upper r
            side true e = rw e (record { lows = λ x i. b.lows x (inr (inr i)); highs = λ x i. b.highs x (inr (inr i)); apart = b.apart })
            side false e =
                rw e
                (record {
                  lows = λ x i. rw (g.0.right (child_real k e) x i);
                  highs = λ x i. b.highs x (inr (inr i));
                  apart = b.highs d (inr (inl refl));
                })

  page_sound :
      (l : ℕ) (p : PageId) (n : Node) (tr : Tree) (lower upper : Option Datom) → Holds f (page l n.datoms n.children) tr →
      Good cmp tr →
      Bounded cmp lower upper tr → check_at cmp f l p lower upper (fine n) ≡ is_sound
  unfolding check_at
  page_sound zero p n tr lower upper h g b =
      walk_sound 0 (λ c x y. is_sound) (λ c k lo up u v w z. refl) p upper lower lower h g (λ x i. b.lows x (own_in x tr i)) b.apart b
  page_sound (suc l) p n tr lower upper h g b =
      walk_sound (suc l) (λ c x y. check_at cmp f l c x y (at_level l (f c)))
      (λ c k lo up u v w z. under c k lo up u v w z (λ m. page_sound l c m)) p upper lower
      lower h g (λ x i. b.lows x (own_in x tr i)) b.apart b
    where
      under :
          (c : PageId) (k : Tree) (lower upper : Option Datom) → Holds f (child (suc l) c) k → is_none c ≡ false → Good cmp k →
          Bounded cmp lower upper k →
          ((m : Node) (tr : Tree) (lower upper : Option Datom) → Holds f (page l m.datoms m.children) tr → Good cmp tr →
          Bounded cmp lower upper tr → check_at cmp f l c lower upper (fine m) ≡ is_sound) →
          check_at cmp f l c lower upper (at_level l (f c)) ≡ is_sound
      under c k lower upper (no_page n) v w z ih = absurd (clash v n)
      under c k lower upper (a_page {n} r q h) v w z ih = rw q (ih n k lower upper h w z)

  -- a root has no bounds
  pub root_sound :
      (l : ℕ) (root : PageId) (n : Node) (tr : Tree) → Holds f (page l n.datoms n.children) tr → Good cmp tr →
      check_at cmp f l root nothing nothing (fine n) ≡ is_sound
  unfolding above_lower below_upper
  root_sound l root n tr h g = page_sound l root n tr nothing nothing h g (record { lows = λ x i. refl; highs = λ x i. refl; apart = refl })
