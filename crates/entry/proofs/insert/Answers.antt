-- `insert` meets its contract: the record's own refusals, and the rest in its order. Assumes nothing.
use borrow.Author.Rules.{rules}
use Rattle.std.specs.Prelude.{Err}
use mathlib.Core.Bool.{◌||◌}
use mathlib.Core.Path.{◌≡◌, sym, ap, ◌∙◌}
use lib.ListN.{length}
use Rattle.store.specs.declared.Extent.{Extent}
use Rattle.rules.specs.Store.{bad_store, bad_scratch}
use Rattle.rules.specs.Calls.{bad_room, insert_bytes_call}
use Rattle.ordered.specs.Ways.{told_refused, told_order}
use Rattle.entry.specs.Reply.{replies_refused}
use Rattle.entry.proofs.insert.Goals as goal

pub used_of-used-requires : goal.used_of-used-requires
used_of-used-requires c =
    let a = c.args in
    let bad : c.is_bad-bad.result ≡ bad_room a.recorded a.store.now (length a.s.now) =
    c.is_bad-bad.ensures ∙ ap (λ (x : Extent). bad_store x a.store.now || bad_scratch x (length a.s.now)) c.extent-extent.ensures
    in
    (told_order a.recorded a.heap.now _ bad _ (sym c.order_in.ensures ∙ c.in_ok-by.was)).heap

pub returns-in_err-by : goal.returns-in_err-by
unfolding insert_bytes_call
returns-in_err-by c =
    let a = c.args in
    let bad : c.is_bad-bad.result ≡ bad_room a.recorded a.store.now (length a.s.now) =
    c.is_bad-bad.ensures ∙ ap (λ (x : Extent). bad_store x a.store.now || bad_scratch x (length a.s.now)) c.extent-extent.ensures
    in
    let k : c.from_residual.result ≡ Err c.in_err-by.field-0.0 = search rules in
    rw k (replies_refused _ _ c.in_err-by.field-0.0 _ (rw (told_refused a.recorded a.heap.now _ bad _ (sym c.order_in.ensures ∙ c.in_err-by.was))))

pub returns : goal.returns
unfolding insert_bytes_call
returns c =
    let a = c.args in
    let bad : c.is_bad-bad.result ≡ bad_room a.recorded a.store.now (length a.s.now) =
    c.is_bad-bad.ensures ∙ ap (λ (x : Extent). bad_store x a.store.now || bad_scratch x (length a.s.now)) c.extent-extent.ensures
    in
    let good = told_order a.recorded a.heap.now _ bad _ (sym c.order_in.ensures ∙ c.in_ok-by.was) in
    rw (good.fault, good.order, ← c.used_of-used.ensures, ← c.extent-extent.ensures) c.insert_in.ensures
