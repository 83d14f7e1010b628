-- `lookup_all` meets its contract: what the rest of the batch finds is what the whole finds. Assumes nothing.
use Rattle.std.proofs.Common.{rules, refl, sym, ◌∙◌}
use Rattle.std.proofs.lemmas.Result.{err_from_is_err_and}
use Rattle.datom.specs.Laws.{datoms_from}
use Rattle.memory_store.specs.Pages.{order_of}
use Rattle.index.proofs.Laws.{order_preorder}
use Rattle.lookup.specs.Steps.{all_met, all_lost, all_end}
use Rattle.lookup.specs.Gap.{next_most, next_finds}
use Rattle.lookup.specs.Path.{kept_unread}
use Rattle.lookup.proofs.lookup_all.Goals as goal

pub loop-i-init : goal.loop-i-init
loop-i-init c =
    let a = c.args in
    let p = a.pages.now in
    (search rules, refl, rw c.new-path.ensures (kept_unread (order_of p) p.extent p.store.now))

pub returns-then-looked : goal.returns-then-looked
returns-then-looked c =
    let a = c.args in
    let at = datoms_from a.n c.loop-i.i a.b.now c.loop-i-test.true in
    let q = rw (c.datom_at-d.ensures, c.if-looked.true) at c.in_ok-looked.ensures.0 in
    sym (all_met _ _ _ _ c.loop-i.i at q) ∙ c.loop-i.invariant.1

pub loop-i-preserved : goal.loop-i-preserved
loop-i-preserved c =
    let a = c.args in
    let p = a.pages.now in
    let t = order_of p in
    let L = order_preorder p.order.by p.order.heap.now in
    let h = c.loop-i-test.true in
    let q = rw (c.datom_at-d.ensures, c.if-looked.false) at c.in_ok-looked.ensures.0 in
    let F = (rw (c.datom_at-d.ensures, c.if-looked.false) at c.in_ok-looked.ensures.2) refl in
    rw c.skip-i.ensures (
      next_most t L a.n c.loop-i.i a.b.now c.requires.2 h _,
      next_finds t L a.n c.loop-i.i a.b.now c.requires.2 h p.extent p.store.now a.level a.root _ F q ∙ c.loop-i.invariant.1,
      c.in_ok-looked.ensures.1,
    )

pub returns-in_err-looked : goal.returns-in_err-looked
returns-in_err-looked c =
    let a = c.args in
    let r = err_from_is_err_and c.from_residual.result c.from_residual.ensures.1 in
    let at = datoms_from a.n c.loop-i.i a.b.now c.loop-i-test.true in
    let q = rw c.datom_at-d.ensures at c.in_err-looked.ensures.0 in
    rw (r.1, r.2) (sym (all_lost _ _ _ _ c.loop-i.i at _ _ q) ∙ c.loop-i.invariant.1)

pub returns : goal.returns
returns c = sym (all_end _ _ _ _ c.loop-i.i _ _ c.loop-i-test.false) ∙ c.loop-i.invariant.1
