-- `skip` meets its contract: those passed by are in the gap, and the one that it stops at is not. Assumes nothing.
use Rattle.std.proofs.Common.{◌≡◌, arith, sym, ◌∙◌}
use Rattle.lookup.specs.Gap.{pass_on, pass_stop, pass_end}
use Rattle.lookup.proofs.gap.skip.Goals as goal

pub returns-then-not-is_inside : goal.returns-then-not-is_inside
returns-then-not-is_inside c =
    let a = c.args in
    pass_stop _ a.n _ a.b.now c.loop-i-test.true (sym (rw c.datom_at.ensures at c.is_inside.ensures) ∙ c.if-not-is_inside.true) ∙ c.loop-i.invariant

pub loop-i-preserved : goal.loop-i-preserved
loop-i-preserved c =
    let a = c.args in
    pass_on _ a.n _ a.b.now c.loop-i-test.true (sym (rw c.datom_at.ensures at c.is_inside.ensures) ∙ c.if-not-is_inside.false) ∙ c.loop-i.invariant

pub returns : goal.returns
returns c =
    let a = c.args in
    let e : c.loop-i.i ≡ a.n = omega arith in
    rw e at (pass_end _ a.n c.loop-i.i a.b.now c.loop-i-test.false ∙ c.loop-i.invariant)
