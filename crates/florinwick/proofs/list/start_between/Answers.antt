-- `start_between` meets its contract: the record's own refusals, then those of the bounds. Assumes nothing.
use mathlib.Core.Path.{◌≡◌, sym, ap, ◌∙◌}
use Rattle.store.specs.declared.Extent.{Extent}
use Rattle.rules.specs.Store.{bad_store}
use Rattle.rules.specs.Calls.{bad_pages}
use Rattle.ordered.specs.Ways.{told_refused, told_order}
use Rattle.florinwick.specs.Listing.{start_bytes}
use Rattle.florinwick.proofs.list.start_between.Goals as goal

pub returns-in-Err : goal.returns-in-Err
unfolding start_bytes
returns-in-Err c =
    let a = c.args in
    let bad : c.is_bad-bad.result ≡ bad_pages a.stored a.store.now =
    c.is_bad-bad.ensures ∙ ap (λ (x : Extent). bad_store x a.store.now) c.extent.ensures
    in
    c.refused.ensures ∙ rw (told_refused a.stored a.heap.now _ bad _ (sym c.order_in.ensures ∙ c.in-Err.is))

pub returns-in-Ok : goal.returns-in-Ok
unfolding start_bytes
returns-in-Ok c =
    let a = c.args in
    let bad : c.is_bad-bad.result ≡ bad_pages a.stored a.store.now =
    c.is_bad-bad.ensures ∙ ap (λ (x : Extent). bad_store x a.store.now) c.extent.ensures
    in
    let good = told_order a.stored a.heap.now _ bad _ (sym c.order_in.ensures ∙ c.in-Ok.is) in
    c.start_bounded.ensures ∙ rw good.fault
