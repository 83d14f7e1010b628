-- `step_on` meets its contract: the smallest datom under the indices, by the rules. Assumes nothing.
use native.Mathlib.Omega.{arith}
use mathlib.Core.Path.{◌≡◌, sym, ap, ◌∙◌}
use Rattle.std.specs.Prelude.{Ok, Err}
use Rattle.answer.specs.Damage.{damaged}
use lib.ListN.{length}
use Rattle.memory_store.specs.Pages.{order_of, fetched_from}
use Rattle.rules.specs.Listing.{begin_frames, open_frames}
use Rattle.listing.specs.WayLaws.{Full}
use Rattle.listing.specs.Opening.{open_at}
use Rattle.listing.specs.Advance.{begin_of, stepped_as}
use Rattle.listing.specs.Taken.{on_damaged, on_nothing, on_twice, on_under, on_at, within_of}
use borrow.Author.Rules.{rules}
use Rattle.listing.proofs.step.step_on.Goals as goal

pub returns-in_err-open_all : goal.returns-in_err-open_all
returns-in_err-open_all c =
    let a = c.args in
    let p = a.pages.now in
    let u = a.cursor in
    let d = c.in_err-open_all.field-0.0 in
    let k : c.from_residual.result ≡ Err (damaged d) = search rules in
    ap (stepped_as u) k
    ∙ on_damaged (order_of p) p.extent p.store.now u d.page d.fault (open_frames (fetched_from p) (begin_frames u))
    (sym c.in_err-open_all.was ∙ c.open_all.ensures)

pub yield_at-requires : goal.yield_at-requires
yield_at-requires c =
    let pre = c.requires in
    let a = c.args in
    let p = a.pages.now in
    let u = a.cursor in
    let ready = sym c.open_all.ensures ∙ c.in_ok-open_all.was in
    let b = c.in-Ok-Some.best in
    let lt = on_under (order_of p) p.extent p.store.now u ready b.level b.datom (sym (c.in-Ok-Some.is ∙ ap Ok c.in-Ok-Some.field-0-is) ∙ c.smallest.ensures) in
    let o = open_at (fetched_from p) u.begin_indices u.begin_pages u.height b.level ready lt in
    (pre, (omega (arith, lt, pre), within_of _ _ _ o))

pub returns-in-Err : goal.returns-in-Err
returns-in-Err c = let a = c.args in
    let p = a.pages.now in
    let u = a.cursor in
    let ready = sym c.open_all.ensures ∙ c.in_ok-open_all.was in
    on_twice (order_of p) p.extent p.store.now u ready _ (sym c.in-Err.is ∙ c.smallest.ensures)

pub returns-in-Ok-None : goal.returns-in-Ok-None
returns-in-Ok-None c =
    let a = c.args in
    let p = a.pages.now in
    let u = a.cursor in
    let ready = sym c.open_all.ensures ∙ c.in_ok-open_all.was in
    rw c.max.ensures (on_nothing (order_of p) p.extent p.store.now u ready (sym (c.in-Ok-None.is ∙ ap Ok c.in-Ok-None.field-0-is) ∙ c.smallest.ensures))

pub returns-in-Ok-Some : goal.returns-in-Ok-Some
returns-in-Ok-Some c =
    let pre = c.requires in
    let a = c.args in
    let p = a.pages.now in
    let u = a.cursor in
    let ready = sym c.open_all.ensures ∙ c.in_ok-open_all.was in
    let is : length u.begin_indices ≡ 8 = search rules in
    let ps : length u.begin_pages ≡ 8 = search rules in
    let full : Full (begin_of u) = (is, ps) in
    let b = c.in-Ok-Some.best in
    c.yield_at.ensures ∙ on_at (order_of p) p.extent p.store.now u ready full pre b.level b.datom (sym (c.in-Ok-Some.is ∙ ap Ok c.in-Ok-Some.field-0-is) ∙ c.smallest.ensures)
