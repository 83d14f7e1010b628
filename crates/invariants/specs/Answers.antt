-- What the check may answer: Sound, Unsound, or a refusal of number 1 or 5.
use Rattle.answer.specs.declared.Flaw.TheVariants.{Unsound, Refused}
use Rattle.std.specs.Prelude.{Ok, Err}
use Rattle.answer.specs.Answers.{Check, unchecked}
use Prim.Native.Nat.{ℕ, zero, suc, Ordering}
use Rattle.std.specs.Prelude.{Bool, ◌||◌, ◌≡◌, eqb, drop, get_or}
use Rattle.std.proofs.Math.Bool.{true, false}
use mathlib.Core.List.{List, [], ◌∷◌}
use Rattle.std.proofs.Math.Option.{Option, none as nothing, some}
use Rattle.std.proofs.Math.Path.{refl, ap}
use Rattle.std.proofs.Common.{sym, ◌∙◌}
use Rattle.store.specs.declared.PageId.{PageId}
use Rattle.store.specs.declared.Extent.{Extent}
use Rattle.store.specs.Page.{none, is_none}
use Rattle.store.specs.Laws.{apart}
use Rattle.datom.specs.declared.Datom.{Datom}
use Rattle.index.specs.Order.{DatomOrd}
use Rattle.answer.specs.declared.Fault.{Fault}
use Rattle.answer.specs.declared.Refusal.TheVariants.{Damaged}
use Rattle.answer.specs.Table.{number_of}
use Rattle.rules.specs.Tree.{Fetched, faulty, fine, at_level}
use Rattle.rules.specs.Store.{bad_store, bad_root, fetch_page}
use Rattle.rules.specs.Check.{above_lower, below_upper, Under, check_child, midpoint_next, walk, check_at, check_root, check_tree}

-- an answer without a refusal
unfoldable pub is_verdict : Check → Bool
is_verdict (Ok o) = true
is_verdict (Err (Unsound p f)) = true
is_verdict (Err (Refused r)) = false

module _ (cmp : Datom → Datom → Ordering) where
  module _ (under : Under) (ok : (c : PageId) (x y : Option Datom) → is_verdict (under c x y) ≡ true) (p : PageId) (upper : Option Datom) where
    child_verdict : (c : PageId) (x y : Option Datom) → is_verdict (check_child under c x y) ≡ true
    unfolding check_child is_verdict
    child_verdict c x y = side (is_none c) refl
      where
        side : (b : Bool) → is_none c ≡ b → is_verdict (check_child under c x y) ≡ true
        side true e = rw e
        side false e = rw e (ok c x y)

    walk_verdict : (ds : List Datom) (cs : List PageId) (last midpoint : Option Datom) → is_verdict (walk cmp under p ds cs last midpoint upper) ≡ true
    unfolding walk is_verdict
    walk_verdict [] cs last midpoint = side (below_upper cmp last upper) refl
      where
        side : (b : Bool) → below_upper cmp last upper ≡ b → is_verdict (walk cmp under p [] cs last midpoint upper) ≡ true
        side true e = rw e (child_verdict (get_or cs 0 none) midpoint upper)
        side false e = rw e
    walk_verdict (d ∷ ds) cs last midpoint =
        side (above_lower cmp last d) refl (check_child under (get_or cs 0 none) midpoint (some d)) refl
        (walk_verdict ds (drop 1 cs) (some d) (midpoint_next (get_or cs 0 none) midpoint d))
      where
        side :
            (b : Bool) → above_lower cmp last d ≡ b → (r : Check) → check_child under (get_or cs 0 none) midpoint (some d) ≡ r →
            is_verdict (walk cmp under p ds (drop 1 cs) (some d) (midpoint_next (get_or cs 0 none) midpoint d) upper) ≡ true →
            is_verdict (walk cmp under p (d ∷ ds) cs last midpoint upper) ≡ true
        side false e r u ih = rw (walk, e)
        side true e (Ok o) u ih = rw (walk, e, u) ih
        side true e (Err (Unsound q f)) u ih = rw (walk, e, u)
        side true e (Err (Refused r)) u ih =
            let k : is_verdict (unchecked r) ≡ true = ap is_verdict (sym u) ∙ child_verdict (get_or cs 0 none) midpoint (some d) in
            absurd (apart (cc))

  at_verdict :
      (fetch : PageId → Fetched) (l : ℕ) (p : PageId) (lower upper : Option Datom) (r : Fetched) →
      is_verdict (check_at cmp fetch l p lower upper r) ≡ true
  unfolding check_at is_verdict
  at_verdict fetch zero p lower upper (faulty f) = refl
  at_verdict fetch zero p lower upper (fine n) = walk_verdict _ (λ c x y. refl) p upper _ _ lower lower
  at_verdict fetch (suc l) p lower upper (faulty f) = refl
  at_verdict fetch (suc l) p lower upper (fine n) =
      walk_verdict _ (λ c x y. at_verdict fetch l c x y (at_level l (fetch c))) p upper _ _ lower lower

  root_verdict : (fetch : PageId → Fetched) (root : PageId) (r : Fetched) → is_verdict (check_root cmp fetch root r) ≡ true
  unfolding check_root is_verdict
  root_verdict fetch root (faulty f) = refl
  root_verdict fetch root (fine n) = at_verdict fetch n.level root nothing nothing (fine n)

-- "the check checks 1, 5"
unfoldable pub is_answer : Check → Bool
is_answer (Ok o) = true
is_answer (Err (Unsound p f)) = true
is_answer (Err (Refused r)) = eqb (number_of r) 1 || eqb (number_of r) 5

verdict_answers : (a : Check) → is_verdict a ≡ true → is_answer a ≡ true
unfolding is_verdict is_answer
verdict_answers (Ok o) e = refl
verdict_answers (Err (Unsound p f)) e = refl
verdict_answers (Err (Refused r)) e = absurd (apart (cc))

module _ (t : DatomOrd) (x : Extent) (s : List ℕ) (root : PageId) where
  pub check_answers : is_answer (check_tree t x s root) ≡ true
  unfolding check_tree is_answer
  check_answers = side (bad_store x s) refl (bad_root x root) refl (is_none root) refl
    where
      side :
          (a : Bool) → bad_store x s ≡ a → (b : Bool) → bad_root x root ≡ b → (c : Bool) → is_none root ≡ c →
          is_answer (check_tree t x s root) ≡ true
      side true u b v c w = rw u
      side false u true v c w = rw (u, v)
      side false u false v true w = rw (u, v, w)
      side false u false v false w = rw (u, v, w) (verdict_answers _ (root_verdict t.cmp (fetch_page t x s) root (fetch_page t x s root)))

  -- "it never gives 7"
  pub never_damaged : (p : PageId) (f : Fault) → check_tree t x s root ≡ unchecked (Damaged p f) → ⊥
  unfolding is_answer
  never_damaged p f e = let k : is_answer (unchecked (Damaged p f)) ≡ true = ap is_answer (sym e) ∙ check_answers in apart (cc)
