-- `place_in` meets its contract: by what the page is opened as at the level asked for. Assumes nothing.
use native.Mathlib.Omega.{arith}
use borrow.Author.Rules.{rules}
use mathlib.Core.Path.{◌≡◌, ◌∙◌}
use Rattle.std.specs.Prelude.{Err}
use Rattle.memory_store.specs.Pages.{order_of}
use Rattle.memory_store.specs.Readable.{opens}
use Rattle.memory_store.specs.Opened.{opened_node}
use Rattle.listing.specs.Descent.{place_lost, place_at, test_of}
use Rattle.listing.proofs.descent.place_in.Goals as goal

pub index_in-index-requires : goal.index_in-index-requires
index_in-index-requires c =
    let a = c.args in
    let p = a.pages.now in
    let k = c.in_ok-k.k in
    let e = opened_node (order_of p) p.extent p.store.now a.page a.level k c.in_ok-k.ensures in
    let w = opens (order_of p) p.extent p.store.now a.page a.level k p.in_order e in
    rw (c.fetch-part.ensures, w.bytes) (omega (arith, w.few, w.wide), w.rise)

pub next_from-next-requires : goal.next_from-next-requires
next_from-next-requires c =
    let a = c.args in
    let p = a.pages.now in
    let k = c.in_ok-k.k in
    let e = opened_node (order_of p) p.extent p.store.now a.page a.level k c.in_ok-k.ensures in
    let w = opens (order_of p) p.extent p.store.now a.page a.level k p.in_order e in
    rw (c.fetch-part.ensures, w.bytes, p.sized) (w.few, omega (arith, w.wide))

pub returns-in_err-k : goal.returns-in_err-k
returns-in_err-k c =
    let a = c.args in
    let p = a.pages.now in
    let k : c.from_residual.result ≡ Err c.in_err-k.field-0.0 = search rules in
    k ∙ place_lost (order_of p) p.extent p.store.now a.page (test_of (order_of p) a.seek) a.level _ c.in_err-k.ensures

pub returns : goal.returns
returns c =
    let a = c.args in
    let p = a.pages.now in
    let k = c.in_ok-k.k in
    let e = opened_node (order_of p) p.extent p.store.now a.page a.level k c.in_ok-k.ensures in
    let w = opens (order_of p) p.extent p.store.now a.page a.level k p.in_order e in
    place_at (order_of p) p.extent p.store.now a.page (test_of (order_of p) a.seek) a.level k e _ p.capacity _ _ (c.fetch-part.ensures ∙ w.bytes) p.sized
    c.index_in-index.ensures c.next_from-next.ensures
