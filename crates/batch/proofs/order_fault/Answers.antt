-- `order_fault` meets its contract: what is found in the rest, behind the last datom passed, is what is found in the whole. Assumes nothing.
use Rattle.std.proofs.Common.{◌≡◌, true, false, arith, sym, ◌∙◌}
use Rattle.datom.specs.Laws.{datoms_from}
use Rattle.index.specs.Order.{ord, is_less}
use Rattle.index.specs.Named.{less_named_law}
use Rattle.batch.specs.Steps.{low_on, low_stop, low_end, order_none, order_start}
use Rattle.batch.proofs.order_fault.Goals as goal

pub returns-then-n-eq0 : goal.returns-then-n-eq0
returns-then-n-eq0 c = rw c.if-n-eq0.true (order_none (ord c.args.order).cmp _)

pub loop-i-init : goal.loop-i-init
loop-i-init c = rw c.datom_at-last.ensures (order_start (ord c.args.order).cmp _ _ (omega arith))

pub loop-i-preserved : goal.loop-i-preserved
loop-i-preserved c =
    let a = c.args in
    let l = c.loop-i in
    let cmp = (ord a.order).cmp in
    let e : is_less (cmp l.last c.datom_at-d.result) ≡ true = cc (less_named_law (cmp l.last c.datom_at-d.result)) in
    rw c.datom_at-d.ensures (sym (low_on cmp l.i l.last (datoms_from a.n l.i a.b.now c.loop-i-test.true) (rw c.datom_at-d.ensures at e)) ∙ l.invariant)

pub returns-then-not-is_lt : goal.returns-then-not-is_lt
returns-then-not-is_lt c =
    let a = c.args in
    let l = c.loop-i in
    let cmp = (ord a.order).cmp in
    let e : is_less (cmp l.last c.datom_at-d.result) ≡ false = cc (less_named_law (cmp l.last c.datom_at-d.result)) in
    sym (low_stop cmp l.i l.last (datoms_from a.n l.i a.b.now c.loop-i-test.true) (rw c.datom_at-d.ensures at e)) ∙ l.invariant

pub returns : goal.returns
returns c = let l = c.loop-i in sym (low_end (ord c.args.order).cmp l.i l.last _ _ (omega arith)) ∙ l.invariant
