-- `open_one` meets its contract: by what the page is opened as at the level asked for. Assumes nothing.
use borrow.Author.Rules.{rules}
use mathlib.Core.Path.{◌≡◌, ◌∙◌}
use Rattle.std.specs.Prelude.{Err}
use Rattle.memory_store.specs.Pages.{order_of}
use Rattle.listing.specs.Opening.{open_lost, open_within, open_past}
use Rattle.listing.proofs.opening.open_one.Goals as goal

pub returns-then-index-k : goal.returns-then-index-k
returns-then-index-k c =
    let a = c.args in
    let p = a.pages.now in
    open_within (order_of p) p.extent p.store.now a.page a.index a.level _ c.in_ok-k.ensures c.if-index-k.true

pub returns-in_err-k : goal.returns-in_err-k
returns-in_err-k c =
    let a = c.args in
    let p = a.pages.now in
    let k : c.from_residual.result ≡ Err c.in_err-k.field-0.0 = search rules in
    k ∙ open_lost (order_of p) p.extent p.store.now a.page a.index a.level _ c.in_err-k.ensures

pub returns : goal.returns
returns c =
    let a = c.args in
    let p = a.pages.now in
    open_past (order_of p) p.extent p.store.now a.page a.index a.level _ c.in_ok-k.ensures c.if-index-k.false
