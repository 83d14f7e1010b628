-- `start_under` meets its contract: nothing between the bounds, a root that cannot be read, or both ways from it. Assumes nothing.
use Rattle.memory_store.specs.Pages.{order_of}
use Rattle.listing.specs.StartLaws.{under_nothing, under_damaged, under_read}
use Rattle.memory_store.specs.Readable.{opens, told_fine, told_faulty}
use Rattle.answer.specs.declared.Fault.{Fault}
use Rattle.answer.specs.declared.Refusal.TheVariants.{Damaged}
use Rattle.listing.specs.Starts.{started_as}
use Rattle.std.specs.Prelude.{Ok, Err}
use borrow.Author.Rules.{rules}
use mathlib.Core.Path.{◌≡◌, sym, ap, ◌∙◌}
use Rattle.listing.proofs.begin.start_under.Goals as goal

pub returns-then-not-is_any_between : goal.returns-then-not-is_any_between
returns-then-not-is_any_between c = let a = c.args in
    let p = a.pages.now in
    rw c.nothing.ensures (under_nothing (order_of p) p.extent p.store.now a.root a.lower a.upper (sym c.is_any_between.ensures ∙ c.if-not-is_any_between.true))

pub start_at-requires : goal.start_at-requires
start_at-requires c =
    let a = c.args in
    let p = a.pages.now in
    let h = c.in_ok-header.header in
    let at : c.header-read.result ≡ Ok h = search rules in
    let e = told_fine (order_of p) p.extent p.store.now a.root h (rw at at c.header-read.ensures) in
    (opens (order_of p) p.extent p.store.now a.root h.level h.count p.in_order e).low

pub returns-in_err-header : goal.returns-in_err-header
returns-in_err-header c =
    let a = c.args in
    let p = a.pages.now in
    let w : (f : Fault) × ((c.header-read.result ≡ Err f) × (c.from_residual.result ≡ Err (Damaged a.root f))) = search rules in
    let e = told_faulty (order_of p) p.extent p.store.now a.root w.0 (rw w.1.0 at c.header-read.ensures) in
    ap started_as w.1.1
    ∙ under_damaged (order_of p) p.extent p.store.now a.root a.lower a.upper (sym c.is_any_between.ensures ∙ c.if-not-is_any_between.false) w.0 e

pub returns : goal.returns
returns c =
    let a = c.args in
    let p = a.pages.now in
    let h = c.in_ok-header.header in
    let at : c.header-read.result ≡ Ok h = search rules in
    let e = told_fine (order_of p) p.extent p.store.now a.root h (rw at at c.header-read.ensures) in
    c.start_at.ensures
    ∙ under_read (order_of p) p.extent p.store.now a.root a.lower a.upper (sym c.is_any_between.ensures ∙ c.if-not-is_any_between.false) h.level h.count e
