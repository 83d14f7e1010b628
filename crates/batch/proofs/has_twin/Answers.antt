-- `has_twin` meets its contract: what is found among the earlier ones still to look at is what is found among all. Assumes nothing.
use Rattle.std.proofs.Common.{◌≡◌, true, false, arith, sym, ◌∙◌}
use Rattle.index.specs.Order.{ord, is_same}
use Rattle.index.specs.Named.{same_named_law}
use Rattle.batch.specs.Twins.{earlier_at, any_on, any_stop, any_end}
use Rattle.batch.proofs.has_twin.Goals as goal

pub returns-then-is_eq : goal.returns-then-is_eq
returns-then-is_eq c =
    let a = c.args in
    let l = c.loop-j in
    let cmp = (ord a.order).cmp in
    let e : is_same (cmp c.datom_at.result c.datom_at-d.result) ≡ true = cc (same_named_law (cmp c.datom_at.result c.datom_at-d.result)) in
    rw (← c.datom_at-d.ensures) (sym (any_stop cmp c.datom_at-d.result (earlier_at l.j a.b.now c.loop-j-test.true) (rw c.datom_at.ensures at e)) ∙ l.invariant)

pub loop-j-preserved : goal.loop-j-preserved
loop-j-preserved c =
    let a = c.args in
    let l = c.loop-j in
    let cmp = (ord a.order).cmp in
    let e : is_same (cmp c.datom_at.result c.datom_at-d.result) ≡ false = cc (same_named_law (cmp c.datom_at.result c.datom_at-d.result)) in
    sym (any_on cmp c.datom_at-d.result (earlier_at l.j a.b.now c.loop-j-test.true) (rw c.datom_at.ensures at e)) ∙ l.invariant

pub returns : goal.returns
returns c = let l = c.loop-j in rw (← c.datom_at-d.ensures) (sym (any_end (ord c.args.order).cmp c.datom_at-d.result l.j _ (omega arith)) ∙ l.invariant)
