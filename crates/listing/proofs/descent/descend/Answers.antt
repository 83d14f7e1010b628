-- `descend` meets its contract: the way from the page at hand ends as the whole way ends. Assumes nothing.
use native.Mathlib.Omega.{arith}
use borrow.Author.Rules.{rules}
use mathlib.Core.Path.{◌≡◌, sym, ◌∙◌}
use Rattle.std.specs.Prelude.{Ok, Err}
use Rattle.answer.specs.declared.Fault.{Fault}
use Rattle.memory_store.specs.Pages.{order_of}
use Rattle.listing.specs.Descent.{test_of, lost, left_all, left_none, left_lost, left_last, left_on, left_stuck}
use Rattle.listing.proofs.descent.descend.Goals as goal

pub loop-l-init : goal.loop-l-init
loop-l-init c = let a = c.args in
    let p = a.pages.now in
    left_all (order_of p) p.extent p.store.now (test_of (order_of p) a.seek) a.level a.way a.page

pub returns-in_err-place : goal.returns-in_err-place
returns-in_err-place c =
    let a = c.args in
    let p = a.pages.now in
    let w = c.loop-l in
    let e : (f : Fault) × ((c.place_in-placed.result ≡ Err f) × (c.from_residual.result ≡ lost w.p f)) = search rules in
    e.1.1
    ∙ left_lost (order_of p) p.extent p.store.now (test_of (order_of p) a.seek) w.l w.filled w.p c.loop-l-test.true e.0 (sym e.1.0 ∙ c.place_in-placed.ensures)
    ∙ w.invariant

pub returns-in_default : goal.returns-in_default
returns-in_default c =
    let a = c.args in
    let p = a.pages.now in
    let w = c.loop-l in
    let at : c.place_in-placed.result ≡ Ok c.in_ok-place.place = search rules in
    rw c.max.ensures
    (left_stuck (order_of p) p.extent p.store.now (test_of (order_of p) a.seek) w.l w.filled w.p c.loop-l-test.true _ _ (sym at ∙ c.place_in-placed.ensures)
    (λ z. omega (arith, z, c.if-l-gt0.true)) (omega (arith, p.counted)) c.in_default.is ∙ w.invariant)

pub loop-l-preserved-then-l-gt0 : goal.loop-l-preserved-then-l-gt0
loop-l-preserved-then-l-gt0 c =
    let a = c.args in
    let p = a.pages.now in
    let w = c.loop-l in
    let at : c.place_in-placed.result ≡ Ok c.in_ok-place.place = search rules in
    left_on (order_of p) p.extent p.store.now (test_of (order_of p) a.seek) w.l w.filled w.p c.loop-l-test.true _ _ (sym at ∙ c.place_in-placed.ensures)
    (λ z. omega (arith, z, c.if-l-gt0.true)) _ c.in-Some.is ∙ w.invariant

pub loop-l-preserved : goal.loop-l-preserved
loop-l-preserved c =
    let a = c.args in
    let p = a.pages.now in
    let w = c.loop-l in
    let at : c.place_in-placed.result ≡ Ok c.in_ok-place.place = search rules in
    left_last (order_of p) p.extent p.store.now (test_of (order_of p) a.seek) w.l w.filled w.p c.loop-l-test.true _ _ (sym at ∙ c.place_in-placed.ensures)
    _ (omega (arith, c.if-l-gt0.false)) ∙ w.invariant

pub returns : goal.returns
returns c = let a = c.args in
    let p = a.pages.now in
    let w = c.loop-l in
    left_none (order_of p) p.extent p.store.now (test_of (order_of p) a.seek) w.l w.filled w.p (omega (arith, c.loop-l-test.false)) ∙ w.invariant
