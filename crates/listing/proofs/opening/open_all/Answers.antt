-- `open_all` meets its contract: what is left to open says what the whole says. Assumes nothing.
use native.Mathlib.Omega.{arith}
use borrow.Author.Rules.{rules}
use mathlib.Core.Path.{◌≡◌, sym, ◌∙◌}
use Rattle.std.specs.Prelude.{◌-◌, get_or, Ok, Err}
use Rattle.store.specs.Page.{page}
use Rattle.answer.specs.declared.Damage.{Damage}
use Rattle.answer.specs.declared.Fault.{Fault}
use Rattle.memory_store.specs.Pages.{fetched_from}
use Rattle.listing.specs.Opening.{open_none, open_on, open_bad}
use Rattle.listing.proofs.opening.open_all.Goals as goal

pub returns-in_err-map_err : goal.returns-in_err-map_err
returns-in_err-map_err c =
    let a = c.args in
    let p = a.pages.now in
    let u = a.cursor in
    let at : Fault → Damage = λ f. record { page = get_or u.begin_pages (c.loop-level.level - 1) (page 0); fault = f } in
    let e : (f : Fault) × ((c.open_one-opened.result ≡ Err f) × (c.from_residual.result ≡ Err (at f))) = search rules in
    e.1.1
    ∙ open_bad (fetched_from p) u.begin_indices u.begin_pages c.loop-level.level c.loop-level-test.true e.0
    (sym c.open_one-opened.ensures ∙ e.1.0) ∙ c.loop-level.invariant

pub loop-level-preserved : goal.loop-level-preserved
loop-level-preserved c =
    let a = c.args in
    let p = a.pages.now in
    let u = a.cursor in
    let e : c.open_one-opened.result ≡ Ok tt = search rules in
    open_on (fetched_from p) u.begin_indices u.begin_pages c.loop-level.level c.loop-level-test.true (sym c.open_one-opened.ensures ∙ e) ∙ c.loop-level.invariant

pub returns : goal.returns
returns c = let a = c.args in
    let p = a.pages.now in
    let u = a.cursor in
    open_none (fetched_from p) u.begin_indices u.begin_pages c.loop-level.level (omega arith) ∙ c.loop-level.invariant
