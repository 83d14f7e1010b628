-- `first_failing` meets its contract: what is found in the rest is what is found in the whole. Assumes nothing.
use Rattle.std.proofs.Common.{◌≡◌, ◌*◌, true, false, sym, ◌∙◌}
use Rattle.datom.specs.Datom.{datom_at}
use Rattle.datom.specs.Laws.{datoms_from}
use Rattle.batch.specs.Steps.{form_on, form_stop, form_end}
use Rattle.batch.proofs.first_failing.Goals as goal

pub returns-then-not-test : goal.returns-then-not-test
returns-then-not-test g c ok bad t =
    let l = c.loop-i in
    let e : ok (datom_at c.args.b.now (32 * l.i)) ≡ false = rw (← c.datom_at.ensures) (sym (t c.datom_at.result _ c.if-not-test.ensures)) in
    l.invariant ok bad t ∙ form_stop bad ok l.i (datoms_from c.args.n l.i c.args.b.now c.loop-i-test.true) e

pub loop-i-preserved : goal.loop-i-preserved
loop-i-preserved g c ok bad t =
    let l = c.loop-i in
    let e : ok (datom_at c.args.b.now (32 * l.i)) ≡ true = rw (← c.datom_at.ensures) (sym (t c.datom_at.result _ c.if-not-test.ensures)) in
    l.invariant ok bad t ∙ form_on bad ok l.i (datoms_from c.args.n l.i c.args.b.now c.loop-i-test.true) e

pub returns : goal.returns
returns g c ok bad t = let l = c.loop-i in l.invariant ok bad t ∙ form_end bad ok l.i _ _ c.loop-i-test.false
