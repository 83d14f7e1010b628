-- `check_at` meets its contract: along a page the walk that is left gives what the whole gives, and a child is one level lower. Assumes
-- nothing.
use native.Mathlib.Omega.{arith}
use borrow.Author.Rules.{rules}
use mathlib.Core.Path.{◌≡◌, refl, ap, ◌∙◌, sym}
use Rattle.std.specs.Prelude.{ℕ, ◌+◌, Ok, Err}
use Rattle.answer.specs.declared.Fault.{Fault}
use Rattle.memory_store.specs.Pages.{order_of}
use Rattle.memory_store.specs.Opened.{opened_node}
use Rattle.invariants.specs.Bounds.{bound_of}
use Rattle.invariants.specs.Walk.{page_faulty}
use Rattle.invariants.specs.Along.{Along, along_start, along_datoms, along_child, along_end, along_outside, along_none, along_above, along_sound, along_unsound}
use Rattle.invariants.specs.Verdict.{verdict_of}
use Rattle.invariants.proofs.+check_at.Goals as goal
use Rattle.invariants.proofs.+check_at.Goals.{Joined-not-is_none, then-not-is_none+in_ok-n+in_ok-check_at, else-not-is_none}

pub loop-i-init : goal.loop-i-init
loop-i-init t c =
    let a = c.args in
    let P = a.pages.now in
    along_start (order_of P) P.extent P.store.now P.capacity a.level a.page a.k _ (bound_of a.lower) (bound_of a.upper) P.in_order P.sized c.requires
    c.fetch-part.ensures

pub bound_at-next-requires : goal.bound_at-next-requires
bound_at-next-requires t c = along_datoms c.loop-i.invariant

pub returns-then-not-is_below : goal.returns-then-not-is_below
returns-then-not-is_below t c = along_outside c.loop-i.invariant (omega (arith, c.loop-i-test.true)) _ c.bound_at-next.ensures (sym c.is_below.ensures ∙ c.if-not-is_below.true)

pub child_at-child-requires : goal.child_at-child-requires
child_at-child-requires t c = along_child c.loop-i.invariant (omega (arith, c.loop-i-test.true))

pub overflow_sub-low : goal.overflow_sub-low
overflow_sub-low t c = let up = along_above c.loop-i.invariant (omega (arith, c.loop-i-test.true)) _ c.bound_at-next.ensures
    (sym c.is_below.ensures ∙ c.if-not-is_below.false) _ c.child_at-child.ensures
    (sym c.is_none.ensures ∙ c.if-not-is_none.true) in
    omega (arith, up)

pub returns-in_err-n : goal.returns-in_err-n
returns-in_err-n t c = let a = c.args in
    let e : (f : Fault) × ((c.open-opened.result ≡ Err f) × (c.from_residual.result ≡ Err (record { page = c.child_at-child.result; fault = f }))) = search rules in
    ap verdict_of e.1.1
    ∙ along_unsound c.loop-i.invariant (omega (arith, c.loop-i-test.true)) _ c.bound_at-next.ensures
    (sym c.is_below.ensures ∙ c.if-not-is_below.false) _ c.child_at-child.ensures
    (sym c.is_none.ensures ∙ c.if-not-is_none.true) _
    (page_faulty (order_of a.pages.now) a.pages.now.extent a.pages.now.store.now _ _ _ _ _ (sym e.1.0 ∙ c.open-opened.ensures)) _ _ refl

pub check_at-requires : goal.check_at-requires
check_at-requires t c =
    let up = along_above c.loop-i.invariant (omega (arith, c.loop-i-test.true)) _ c.bound_at-next.ensures
    (sym c.is_below.ensures ∙ c.if-not-is_below.false) _ c.child_at-child.ensures
    (sym c.is_none.ensures ∙ c.if-not-is_none.true) in
    let at : c.open-opened.result ≡ Ok c.in_ok-n.n = search rules in
    let read = opened_node (order_of c.args.pages.now) c.args.pages.now.extent c.args.pages.now.store.now _ _ _ (sym at ∙ c.open-opened.ensures) in
    (omega (arith, up, c.decreases), read)

pub returns-in_err-check_at : goal.returns-in_err-check_at
returns-in_err-check_at t c =
    let d = c.in_err-check_at.field-0.0 in
    let k : c.from_residual-in_err-check_at.result ≡ Err d = search rules in
    ap verdict_of k
    ∙ along_unsound c.loop-i.invariant (omega (arith, c.loop-i-test.true)) _ c.bound_at-next.ensures
    (sym c.is_below.ensures ∙ c.if-not-is_below.false) _ c.child_at-child.ensures
    (sym c.is_none.ensures ∙ c.if-not-is_none.true) _ c.in_err-check_at.ensures d.page d.fault refl

-- the walk past index i
passed :
    (t : ℕ) (c : Joined-not-is_none t) →
    Along (order_of c.args.pages.now) c.args.pages.now.extent c.args.pages.now.store.now c.args.pages.now.capacity c.args.level c.args.page c.args.k c.fetch-part.result.now (bound_of c.args.lower)
    (bound_of c.args.upper) (c.loop-i.i + 1) (bound_of c.bound_at-next.result) (bound_of c.if-not-is_none.midpoint)
passed t c = elim c.if-not-is_none.branch [
  | then-not-is_none+in_ok-n+in_ok-check_at w ↦
      rw w.midpoint-is
      (along_sound c.loop-i.invariant (omega (arith, c.loop-i-test.true)) _ c.bound_at-next.ensures
      (sym c.is_below.ensures ∙ c.if-not-is_below.false) _ c.child_at-child.ensures
      (sym c.is_none.ensures ∙ w.if-not-is_none.true) _ w.in_ok-check_at.ensures refl)
  | else-not-is_none w ↦
      rw w.midpoint-is
      (along_none c.loop-i.invariant (omega (arith, c.loop-i-test.true)) _ c.bound_at-next.ensures
      (sym c.is_below.ensures ∙ c.if-not-is_below.false) _ c.child_at-child.ensures
      (sym c.is_none.ensures ∙ w.if-not-is_none.false))
]

pub loop-i-preserved : goal.loop-i-preserved
loop-i-preserved t c = passed t (goal.at.loop-i-preserved t c).Joined-not-is_none

pub returns-after-not-is_none : goal.returns-after-not-is_none
returns-after-not-is_none t c = along_end (passed t (goal.at.returns-after-not-is_none t c).Joined-not-is_none) (omega arith)
