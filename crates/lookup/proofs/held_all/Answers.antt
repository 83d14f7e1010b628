-- `held_all` meets its contract: what the rest of the batch finds is what the whole finds. Assumes nothing.
use Rattle.std.proofs.Common.{◌≡◌, true, false, refl, sym, ◌∙◌}
use Rattle.std.proofs.lemmas.Bool.{not-true, not-false}
use Rattle.std.proofs.lemmas.Result.{err_from_is_err_and}
use Rattle.datom.specs.Laws.{datoms_from}
use Rattle.memory_store.specs.Pages.{order_of}
use Rattle.lookup.specs.Held.{held_on, held_absent, held_lost, held_end}
use Rattle.lookup.specs.Path.{kept_unread}
use Rattle.lookup.proofs.held_all.Goals as goal

pub loop-i-init : goal.loop-i-init
loop-i-init c =
    let a = c.args in
    let p = a.pages.now in
    (refl, rw c.new-path.ensures (kept_unread (order_of p) p.extent p.store.now))

pub loop-i-preserved : goal.loop-i-preserved
loop-i-preserved c =
    let a = c.args in
    let at = datoms_from a.n c.loop-i.i a.b.now c.loop-i-test.true in
    let met : c.in_ok-looked.looked.met ≡ true = not-false _ c.if-not-looked.false in
    let q = rw (c.datom_at-d.ensures, met) at c.in_ok-looked.ensures.0 in
    (held_on _ _ _ _ c.loop-i.i at q ∙ c.loop-i.invariant.0, c.in_ok-looked.ensures.1)

pub returns-then-not-looked : goal.returns-then-not-looked
returns-then-not-looked c =
    let a = c.args in
    let at = datoms_from a.n c.loop-i.i a.b.now c.loop-i-test.true in
    let met : c.in_ok-looked.looked.met ≡ false = not-true _ c.if-not-looked.true in
    let q = rw (c.datom_at-d.ensures, met) at c.in_ok-looked.ensures.0 in
    sym (held_absent _ _ _ _ c.loop-i.i at q) ∙ c.loop-i.invariant.0

pub returns-in_err-looked : goal.returns-in_err-looked
returns-in_err-looked c =
    let a = c.args in
    let r = err_from_is_err_and c.from_residual.result c.from_residual.ensures.1 in
    let at = datoms_from a.n c.loop-i.i a.b.now c.loop-i-test.true in
    let q = rw c.datom_at-d.ensures at c.in_err-looked.ensures.0 in
    rw (r.1, r.2) (sym (held_lost _ _ _ _ c.loop-i.i at _ _ q) ∙ c.loop-i.invariant.0)

pub returns : goal.returns
returns c = sym (held_end _ _ _ _ c.loop-i.i _ _ c.loop-i-test.false) ∙ c.loop-i.invariant.0
