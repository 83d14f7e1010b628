-- `smallest` meets its contract: the minimum so far is that of the levels below. Assumes nothing.
use native.Mathlib.Omega.{arith}
use borrow.Author.Rules.{rules}
use mathlib.Core.Path.{◌≡◌, sym, ◌∙◌}
use Rattle.std.specs.Prelude.{◌+◌, Err}
use Rattle.memory_store.specs.Pages.{order_of, fetched_from}
use Rattle.listing.specs.Opening.{open_at}
use Rattle.listing.specs.CandidateLaws.{candidate_none, candidate_on, candidate_stays}
use Rattle.listing.specs.Levels.{fine_in}
use Rattle.listing.proofs.candidate.smallest.Goals as goal

pub loop-level-init : goal.loop-level-init
loop-level-init c = let a = c.args in
    let p = a.pages.now in
    let u = a.cursor in
    candidate_none (order_of p) (fetched_from p) u.begin_indices u.begin_pages

pub chosen-requires : goal.chosen-requires
chosen-requires c =
    let a = c.args in
    let p = a.pages.now in
    let u = a.cursor in
    let o = open_at (fetched_from p) u.begin_indices u.begin_pages _ c.loop-level.level c.requires.1 c.loop-level-test.true in
    fine_in _ o.node o.read

pub returns-in_err-best : goal.returns-in_err-best
returns-in_err-best c =
    let a = c.args in
    let p = a.pages.now in
    let u = a.cursor in
    let k : c.from_residual.result ≡ Err c.in_err-best.field-0.0 = search rules in
    let e = candidate_on (order_of p) (fetched_from p) u.begin_indices u.begin_pages c.loop-level.level _ c.chosen.result c.loop-level.invariant c.chosen.ensures in
    k ∙ candidate_stays (order_of p) (fetched_from p) u.begin_indices u.begin_pages u.height (c.loop-level.level + 1) _ (omega (arith, c.loop-level-test.true)) (sym c.in_err-best.was ∙ e)

pub loop-level-preserved : goal.loop-level-preserved
loop-level-preserved c =
    let a = c.args in
    let p = a.pages.now in
    let u = a.cursor in
    sym c.in_ok-best.was ∙ candidate_on (order_of p) (fetched_from p) u.begin_indices u.begin_pages c.loop-level.level _ c.chosen.result c.loop-level.invariant c.chosen.ensures
