-- `begun_in` meets its contract: the checks in their order, then the pages. Assumes nothing.
use Rattle.index.specs.Order.{ord}
use Rattle.index.specs.Form.{order_bound}
use Rattle.listing.specs.StartLaws.{start_bad, start_lower, start_upper, start_root, start_on}
use borrow.Author.Rules.{rules}
use mathlib.Core.Path.{◌≡◌, sym, ap, ◌∙◌}
use Rattle.std.specs.Prelude.{Err}
use Rattle.answer.specs.declared.Refusal.TheVariants.{BadStore}
use Rattle.listing.specs.Starts.{started_as}
use Rattle.listing.proofs.begin.begun_in.Goals as goal

pub returns-in_err-pages : goal.returns-in_err-pages
returns-in_err-pages c =
    let a = c.args in
    let k : c.from_residual.result ≡ Err BadStore = search rules in
    ap started_as k ∙ start_bad (ord a.order) a.extent a.store.now a.root a.lower a.upper c.in_err-pages.ensures.0

pub returns-then-not-is_bound : goal.returns-then-not-is_bound
returns-then-not-is_bound c =
    let a = c.args in
    let (ok, of) = c.in_ok-pages.ensures in
    start_lower (ord a.order) a.extent a.store.now a.root a.lower a.upper ok
    (order_bound a.order.by a.order.heap.now _ ∙ sym c.is_bound.ensures ∙ c.if-not-is_bound.true)

pub returns-then-not-is_bound-2 : goal.returns-then-not-is_bound-2
returns-then-not-is_bound-2 c =
    let a = c.args in
    let (ok, of) = c.in_ok-pages.ensures in
    start_upper (ord a.order) a.extent a.store.now a.root a.lower a.upper ok
    (order_bound a.order.by a.order.heap.now _ ∙ sym c.is_bound.ensures ∙ c.if-not-is_bound.false) (order_bound a.order.by a.order.heap.now _ ∙ sym c.is_bound-2.ensures ∙ c.if-not-is_bound-2.true)

pub returns-then-is_bad_root : goal.returns-then-is_bad_root
returns-then-is_bad_root c =
    let a = c.args in
    let (ok, of) = c.in_ok-pages.ensures in
    start_root (ord a.order) a.extent a.store.now a.root a.lower a.upper ok
    (order_bound a.order.by a.order.heap.now _ ∙ sym c.is_bound.ensures ∙ c.if-not-is_bound.false) (order_bound a.order.by a.order.heap.now _ ∙ sym c.is_bound-2.ensures ∙ c.if-not-is_bound-2.false)
    (sym c.is_bad_root.ensures ∙ c.if-is_bad_root.true)

pub returns : goal.returns
returns c =
    let a = c.args in
    let (ok, of) = c.in_ok-pages.ensures in
    (rw (of.bytes, of.extent, of.order) at c.start_under.ensures) ∙ start_on (ord a.order) a.extent a.store.now a.root a.lower a.upper ok
    (order_bound a.order.by a.order.heap.now _ ∙ sym c.is_bound.ensures ∙ c.if-not-is_bound.false) (order_bound a.order.by a.order.heap.now _ ∙ sym c.is_bound-2.ensures ∙ c.if-not-is_bound-2.false)
    (sym c.is_bad_root.ensures ∙ c.if-is_bad_root.false)
