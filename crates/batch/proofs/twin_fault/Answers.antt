-- `twin_fault` meets its contract: what is found in the rest, behind those passed, is what is found in the whole. Assumes nothing.
use native.Mathlib.Omega.{arith}
use mathlib.Core.Path.{sym, ◌∙◌}
use Rattle.datom.specs.Laws.{datoms_from}
use Rattle.index.specs.Order.{ord}
use Rattle.batch.specs.Twins.{twin_start, twin_on, twin_stop, twin_end}
use Rattle.batch.proofs.twin_fault.Goals as goal

pub loop-i-init : goal.loop-i-init
loop-i-init c = twin_start (ord c.args.order).cmp _ _

pub returns-then-has_twin : goal.returns-then-has_twin
returns-then-has_twin c =
    let a = c.args in
    let l = c.loop-i in
    sym (twin_stop (ord a.order).cmp l.i a.b.now (datoms_from a.n l.i a.b.now (omega arith)) (sym c.has_twin.ensures ∙ c.if-has_twin.true)) ∙ l.invariant

pub loop-i-preserved : goal.loop-i-preserved
loop-i-preserved c =
    let a = c.args in
    let l = c.loop-i in
    sym (twin_on (ord a.order).cmp l.i a.b.now (datoms_from a.n l.i a.b.now (omega arith)) (sym c.has_twin.ensures ∙ c.if-has_twin.false)) ∙ l.invariant

pub returns : goal.returns
returns c = let l = c.loop-i in sym (twin_end (ord c.args.order).cmp l.i _ _ (omega arith)) ∙ l.invariant
