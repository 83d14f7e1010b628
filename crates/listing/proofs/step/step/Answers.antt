-- `step` meets its contract: the record's own refusals, and the rest in its order. Assumes nothing.
use mathlib.Core.Path.{◌≡◌, sym, ap, ◌∙◌}
use Rattle.store.specs.declared.Extent.{Extent}
use Rattle.rules.specs.Store.{bad_store}
use Rattle.rules.specs.Calls.{bad_pages, step_call}
use Rattle.ordered.specs.Ways.{told_refused, told_order}
use Rattle.listing.proofs.step.step.Goals as goal

pub used_of-used-requires : goal.used_of-used-requires
used_of-used-requires c =
    let a = c.args in
    let bad : c.is_bad-bad.result ≡ bad_pages a.recorded a.store.now = c.is_bad-bad.ensures ∙ ap (λ (x : Extent). bad_store x a.store.now) c.extent-extent.ensures in
    (told_order a.recorded a.heap.now (bad_pages a.recorded a.store.now) bad _ (sym c.order_in.ensures ∙ c.in-Ok.is)).heap

pub returns-in-Err : goal.returns-in-Err
unfolding step_call
returns-in-Err c =
    let a = c.args in
    let bad : c.is_bad-bad.result ≡ bad_pages a.recorded a.store.now = c.is_bad-bad.ensures ∙ ap (λ (x : Extent). bad_store x a.store.now) c.extent-extent.ensures in
    c.stepped.ensures ∙ rw (told_refused a.recorded a.heap.now (bad_pages a.recorded a.store.now) bad _ (sym c.order_in.ensures ∙ c.in-Err.is))

pub returns-in-Ok : goal.returns-in-Ok
unfolding step_call
returns-in-Ok c =
    let a = c.args in
    let bad : c.is_bad-bad.result ≡ bad_pages a.recorded a.store.now = c.is_bad-bad.ensures ∙ ap (λ (x : Extent). bad_store x a.store.now) c.extent-extent.ensures in
    let good = told_order a.recorded a.heap.now (bad_pages a.recorded a.store.now) bad _ (sym c.order_in.ensures ∙ c.in-Ok.is) in
    c.step_in.ensures ∙ rw (c.extent-extent.ensures, c.used_of-used.ensures, good.fault, good.order)
