-- `next_in` meets its contract: the checks in their order, then the pages. Assumes nothing.
use borrow.Author.Rules.{rules}
use mathlib.Core.Path.{◌≡◌, sym, ap, ◌∙◌}
use Rattle.std.specs.Prelude.{Err}
use Rattle.answer.specs.declared.Refusal.TheVariants.{BadStore}
use Rattle.listing.specs.Advance.{stepped_as}
use Rattle.index.specs.Order.{ord}
use Rattle.listing.specs.StepLaws.{step_bad, step_tall, step_ended, step_goes}
use Rattle.listing.proofs.step.next_in.Goals as goal

pub returns-in_err-pages : goal.returns-in_err-pages
returns-in_err-pages c =
    let a = c.args in
    let k : c.from_residual.result ≡ Err BadStore = search rules in
    ap (stepped_as a.cursor) k ∙ step_bad (ord a.order) a.extent a.store.now a.cursor c.in_err-pages.ensures.0

pub returns-then-cursor : goal.returns-then-cursor
returns-then-cursor c =
    let a = c.args in
    let u = a.cursor in
    let (ok, of) = c.in_ok-pages.ensures in
    rw c.max.ensures (step_tall (ord a.order) a.extent a.store.now u ok c.if-cursor.true)

pub returns-then-is_at_end : goal.returns-then-is_at_end
returns-then-is_at_end c =
    let a = c.args in
    let u = a.cursor in
    let (ok, of) = c.in_ok-pages.ensures in
    step_ended (ord a.order) a.extent a.store.now u ok c.if-cursor.false (sym c.is_at_end.ensures ∙ c.if-is_at_end.true)

pub returns : goal.returns
returns c =
    let a = c.args in
    let u = a.cursor in
    let (ok, of) = c.in_ok-pages.ensures in
    (rw (of.bytes, of.extent, of.order) at c.step_on.ensures)
    ∙ step_goes (ord a.order) a.extent a.store.now u ok c.if-cursor.false (sym c.is_at_end.ensures ∙ c.if-is_at_end.false)
