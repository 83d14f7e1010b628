-- "The check walks as `check_invariants_at` and answers Sound, or Unsound with the page of the first fault that walk meets".
use Rattle.answer.specs.declared.Flaw.TheVariants.{Unsound, Refused}
use Rattle.std.specs.Prelude.{Ok, Err}
use Rattle.answer.specs.Answers.{Check, is_sound, unchecked, unsound_at}
use Prim.Native.Nat.{ℕ, zero, suc, Ordering}
use Rattle.std.specs.Prelude.{Bool, true, false, cond, List, [], ◌∷◌, drop, get_or}
use Rattle.std.proofs.Math.Option.{Option, none as nothing, some}
use Rattle.store.specs.declared.PageId.{PageId}
use Rattle.store.specs.declared.Extent.{Extent}
use Rattle.store.specs.Page.{none, is_none}
use Rattle.datom.specs.declared.Datom.{Datom}
use Rattle.index.specs.Order.{DatomOrd, is_less}
use Rattle.answer.specs.declared.Fault.TheVariants.{OutOfBounds}
use Rattle.answer.specs.declared.Refusal.TheVariants.{BadStore, NoPage}
use Rattle.rules.specs.Tree.{Fetched, faulty, fine, at_level}
use Rattle.rules.specs.Store.{refuse_if, or_else, bad_store, bad_root, fetch_page}

-- a bound that may be missing: above the lower, below the upper
unfoldable pub above_lower : (Datom → Datom → Ordering) → Option Datom → Datom → Bool
above_lower cmp nothing d = true
above_lower cmp (some x) d = is_less (cmp x d)

unfoldable pub below_upper : (Datom → Datom → Ordering) → Option Datom → Option Datom → Bool
below_upper cmp lower nothing = true
below_upper cmp lower (some y) = above_lower cmp lower y

-- the check of a page between two bounds
abbrev pub Under : Type 0
Under = PageId → Option Datom → Option Datom → Check

unfoldable pub check_child : Under → PageId → Option Datom → Option Datom → Check
check_child under c lower upper = cond (is_none c) is_sound (under c lower upper)

-- a child's lower bound is the midpoint before it
unfoldable pub midpoint_next : PageId → Option Datom → Datom → Option Datom
midpoint_next c lower d = cond (is_none c) lower (some d)

-- along a page's datoms and children: the last datom passed, the last midpoint passed, the upper bound. "outside its bounds where the
-- walk compares them (so a child before the page's upper bound can come first)"
unfoldable pub walk :
    (Datom → Datom → Ordering) → Under → PageId → List Datom → List PageId → Option Datom → Option Datom → Option Datom → Check
walk cmp under p [] cs lower midpoint upper =
    cond (below_upper cmp lower upper) (check_child under (get_or cs 0 none) midpoint upper) (unsound_at p OutOfBounds)
walk cmp under p (d ∷ ds) cs lower midpoint upper =
    elim (above_lower cmp lower d) [
      | false ↦ unsound_at p OutOfBounds
      | true ↦ elim (check_child under (get_or cs 0 none) midpoint (some d)) [
        | Ok u ↦ walk cmp under p ds (drop 1 cs) (some d) (midpoint_next (get_or cs 0 none) midpoint d) upper
        | Err (Unsound q f) ↦ unsound_at q f
        | Err (Refused r) ↦ unchecked r
      ]
    ]

-- "a page missing, unreadable or of the wrong level where it is read": a page of level l, read as r
unfoldable pub check_at : (Datom → Datom → Ordering) → (PageId → Fetched) → ℕ → PageId → Option Datom → Option Datom → Fetched → Check
check_at cmp fetch zero p lower upper (faulty f) = unsound_at p f
check_at cmp fetch zero p lower upper (fine n) = walk cmp (λ c x y. is_sound) p n.datoms n.children lower lower upper
check_at cmp fetch (suc l) p lower upper (faulty f) = unsound_at p f
check_at cmp fetch (suc l) p lower upper (fine n) =
    walk cmp (λ c x y. check_at cmp fetch l c x y (at_level l (fetch c))) p n.datoms n.children lower lower upper

unfoldable pub check_root : (Datom → Datom → Ordering) → (PageId → Fetched) → PageId → Fetched → Check
check_root cmp fetch root (faulty f) = unsound_at root f
check_root cmp fetch root (fine n) = check_at cmp fetch n.level root nothing nothing (fine n)

-- "the check checks 1, 5", "Root "none" is Sound."
unfoldable pub check_tree : DatomOrd → Extent → List ℕ → PageId → Check
check_tree t x s root =
    or_else unchecked (refuse_if (bad_store x s) BadStore)
    (or_else unchecked (refuse_if (bad_root x root) NoPage)
    (cond (is_none root) is_sound (check_root t.cmp (fetch_page t x s) root (fetch_page t x s root))))
