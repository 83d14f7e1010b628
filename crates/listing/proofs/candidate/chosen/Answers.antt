-- `chosen` meets its contract: the count is the one in the page's header. Assumes nothing.
use native.Mathlib.Omega.{arith}
use mathlib.Core.Path.{◌∙◌}
use Rattle.std.specs.Prelude.{Ok}
use Rattle.memory_store.specs.Pages.{order_of}
use Rattle.memory_store.specs.Readable.{opens}
use Rattle.memory_store.specs.FetchLaws.{in_order}
use Rattle.listing.specs.CandidateLaws.{read_node, pick_past, pick_at}
use Rattle.listing.proofs.candidate.chosen.Goals as goal

pub count_of-requires : goal.count_of-requires
count_of-requires c =
    let a = c.args in
    let p = a.pages.now in
    let o = opens (order_of p) p.extent p.store.now a.page _ _ p.in_order (read_node (order_of p) p.extent p.store.now a.page _ c.requires) in
    rw (c.fetch-part.ensures, o.bytes, p.sized) o.wide

pub returns-then-count_of-index : goal.returns-then-count_of-index
returns-then-count_of-index c =
    let a = c.args in
    let p = a.pages.now in
    let e = read_node (order_of p) p.extent p.store.now a.page _ c.requires in
    let o = opens (order_of p) p.extent p.store.now a.page _ _ p.in_order e in
    pick_past (order_of p) p.extent p.store.now a.page _ _ e a.level a.index (Ok a.best) (rw (c.count_of.ensures, c.fetch-part.ensures, o.bytes, p.sized) at c.if-count_of-index.true)

pub overflow_mul-index : goal.overflow_mul-index
overflow_mul-index c =
    let a = c.args in
    let p = a.pages.now in
    let o = opens (order_of p) p.extent p.store.now a.page _ _ p.in_order (read_node (order_of p) p.extent p.store.now a.page _ c.requires) in
    let lt = rw (c.count_of.ensures, c.fetch-part.ensures, o.bytes, p.sized) at c.if-count_of-index.false in
    omega (arith, lt, o.few, (in_order p.extent p.store.now p.in_order).known.few)

pub datom_at-requires : goal.datom_at-requires
datom_at-requires c =
    let a = c.args in
    let p = a.pages.now in
    let o = opens (order_of p) p.extent p.store.now a.page _ _ p.in_order (read_node (order_of p) p.extent p.store.now a.page _ c.requires) in
    let lt = rw (c.count_of.ensures, c.fetch-part.ensures, o.bytes, p.sized) at c.if-count_of-index.false in
    rw (c.fetch-part.ensures, o.bytes) (omega (arith, lt, o.few, o.wide))

pub returns : goal.returns
returns c =
    let a = c.args in
    let p = a.pages.now in
    let e = read_node (order_of p) p.extent p.store.now a.page _ c.requires in
    let o = opens (order_of p) p.extent p.store.now a.page _ _ p.in_order e in
    let lt = rw (c.count_of.ensures, c.fetch-part.ensures, o.bytes, p.sized) at c.if-count_of-index.false in
    c.against.ensures ∙ rw (c.datom_at.ensures, c.fetch-part.ensures, o.bytes)
    (pick_at (order_of p) p.extent p.store.now a.page _ _ e a.level a.index (Ok a.best) lt)
