-- `lookup_one` meets its contract: the path from the page at hand ends where the whole path ends, and so do those of the gap. Assumes nothing.
use Rattle.std.proofs.Common.{rules, arith, ◌≡◌, sym, ◌∙◌, Ok, Err}
use Rattle.answer.specs.declared.Fault.{Fault}
use Rattle.lookup.specs.Look.{damage}
use Rattle.memory_store.specs.Pages.{order_of}
use Rattle.index.proofs.Laws.{order_preorder}
use Rattle.memory_store.specs.Readable.{opens}
use Rattle.lookup.specs.Gap.{met_leaves}
use Rattle.lookup.specs.Steps.{next_real}
use Rattle.lookup.specs.Path.{gap_is, met_is, next_is, going_met, going_absent, going_free, going_stuck, going_lost, going_down}
use Rattle.lookup.proofs.lookup_one.Goals as goal

pub part-part-requires : goal.part-part-requires
part-part-requires c =
    let a = c.args in
    let p = a.pages.now in
    let o = opens (order_of p) p.extent p.store.now c.loop-part.page c.loop-part.l c.loop-part.k p.in_order c.loop-part.invariant.read in
    o.used

pub first_not_below-i-requires : goal.first_not_below-i-requires
first_not_below-i-requires c =
    let a = c.args in
    let p = a.pages.now in
    let o = opens (order_of p) p.extent p.store.now c.loop-part.page c.loop-part.l c.loop-part.k p.in_order c.loop-part.invariant.read in
    rw c.part-part.ensures (omega (arith, o.few, o.wide), o.rise)

pub is_met-requires : goal.is_met-requires
is_met-requires c =
    let a = c.args in
    let p = a.pages.now in
    let o = opens (order_of p) p.extent p.store.now c.loop-part.page c.loop-part.l c.loop-part.k p.in_order c.loop-part.invariant.read in
    rw c.part-part.ensures (omega (arith, o.few, o.wide))

pub returns-then-is_met : goal.returns-then-is_met
returns-then-is_met c =
    let a = c.args in
    let m = met_is c.loop-part.invariant c.part-part.ensures c.first_not_below-i.ensures c.is_met.ensures c.if-is_met.true in
    (going_met c.loop-part.invariant m, c.loop-part.invariant.kept, met_leaves _ _ _ _ _ _ _)

pub narrow-gap-requires : goal.narrow-gap-requires
narrow-gap-requires c =
    let a = c.args in
    let p = a.pages.now in
    let o = opens (order_of p) p.extent p.store.now c.loop-part.page c.loop-part.l c.loop-part.k p.in_order c.loop-part.invariant.read in
    rw c.part-part.ensures (omega (arith, o.few, o.wide))

pub returns-then-l-eq0 : goal.returns-then-l-eq0
returns-then-l-eq0 c =
    let a = c.args in
    let p = a.pages.now in
    let m = met_is c.loop-part.invariant c.part-part.ensures c.first_not_below-i.ensures c.is_met.ensures c.if-is_met.false in
    let g = gap_is c.loop-part.invariant c.part-part.ensures c.first_not_below-i.ensures c.narrow-gap.ensures in
    (going_absent c.loop-part.invariant m c.if-l-eq0.true, c.loop-part.invariant.kept, λ e. rw g (going_free c.loop-part.invariant m (order_preorder p.order.by p.order.heap.now) c.if-l-eq0.true))

pub next_midpoint-requires : goal.next_midpoint-requires
next_midpoint-requires c =
    let a = c.args in
    let p = a.pages.now in
    let o = opens (order_of p) p.extent p.store.now c.loop-part.page c.loop-part.l c.loop-part.k p.in_order c.loop-part.invariant.read in
    rw (c.part-part.ensures, p.sized) (o.few, omega (arith, o.wide))

pub returns-in_default : goal.returns-in_default
returns-in_default c =
    let a = c.args in
    let p = a.pages.now in
    let m = met_is c.loop-part.invariant c.part-part.ensures c.first_not_below-i.ensures c.is_met.ensures c.if-is_met.false in
    let n = next_is c.loop-part.invariant c.part-part.ensures c.first_not_below-i.ensures p.sized c.next_midpoint.ensures c.in_default.is in
    (rw c.max.ensures (going_stuck c.loop-part.invariant m c.if-l-eq0.false (omega (arith, p.counted)) n), c.loop-part.invariant.kept, tt)

pub open_at-opened-requires : goal.open_at-opened-requires
open_at-opened-requires c =
    let a = c.args in
    let p = a.pages.now in
    let o = opens (order_of p) p.extent p.store.now c.loop-part.page c.loop-part.l c.loop-part.k p.in_order c.loop-part.invariant.read in
    let n = next_is c.loop-part.invariant c.part-part.ensures c.first_not_below-i.ensures p.sized c.next_midpoint.ensures c.in-Some.is in
    (c.loop-part.invariant.kept, omega (arith, o.low), next_real _ _ n)

pub offset_bounds-path-l : goal.offset_bounds-path-l
offset_bounds-path-l c =
    let a = c.args in
    let p = a.pages.now in
    let o = opens (order_of p) p.extent p.store.now c.loop-part.page c.loop-part.l c.loop-part.k p.in_order c.loop-part.invariant.read in
    omega (arith, o.low)

pub bounds-path-l : goal.bounds-path-l
bounds-path-l c =
    let a = c.args in
    let p = a.pages.now in
    let o = opens (order_of p) p.extent p.store.now c.loop-part.page c.loop-part.l c.loop-part.k p.in_order c.loop-part.invariant.read in
    omega (arith, o.low)

pub loop-part-preserved : goal.loop-part-preserved
loop-part-preserved c =
    let a = c.args in
    let p = a.pages.now in
    let o = opens (order_of p) p.extent p.store.now c.loop-part.page c.loop-part.l c.loop-part.k p.in_order c.loop-part.invariant.read in
    let m = met_is c.loop-part.invariant c.part-part.ensures c.first_not_below-i.ensures c.is_met.ensures c.if-is_met.false in
    let g = gap_is c.loop-part.invariant c.part-part.ensures c.first_not_below-i.ensures c.narrow-gap.ensures in
    let n = next_is c.loop-part.invariant c.part-part.ensures c.first_not_below-i.ensures p.sized c.next_midpoint.ensures c.in-Some.is in
    let at : c.open_at-opened.result ≡ Ok c.in_ok-k.k = search rules in
    rw g
    (going_down c.loop-part.invariant m c.if-l-eq0.false n (order_preorder p.order.by p.order.heap.now) (sym at ∙ c.open_at-opened.ensures) (omega (arith, o.low)))

pub returns-in_err-k : goal.returns-in_err-k
returns-in_err-k c =
    let p = c.args.pages.now in
    let m = met_is c.loop-part.invariant c.part-part.ensures c.first_not_below-i.ensures c.is_met.ensures c.if-is_met.false in
    let n = next_is c.loop-part.invariant c.part-part.ensures c.first_not_below-i.ensures p.sized c.next_midpoint.ensures c.in-Some.is in
    let w : (f : Fault) × ((c.open_at-opened.result ≡ Err f) × (c.from_residual.result ≡ Err (damage c.in-Some.child f))) = search rules in
    rw w.1.1 (going_lost c.loop-part.invariant m c.if-l-eq0.false n (sym w.1.0 ∙ c.open_at-opened.ensures), c.loop-part.invariant.kept, tt)
