-- `held_counted` meets its contract: what an insert's checks find is refused, and a root that is no page; else the tree tells. Assumes nothing.
use Rattle.std.proofs.Common.{sym, ◌∙◌}
use Rattle.std.proofs.lemmas.Result.{err_from_is_err_and}
use Rattle.datom.specs.Datom.{datoms_of}
use Rattle.memory_store.specs.Pages.{order_of}
use Rattle.held.specs.Ways.{counted_found, counted_missing, counted_on}
use Rattle.held.proofs.held_counted.Goals as goal

pub returns-in_err-insert_fault : goal.returns-in_err-insert_fault
returns-in_err-insert_fault c =
    let a = c.args in
    let p = a.pages.now in
    let r = err_from_is_err_and c.from_residual.result c.from_residual.ensures.1 in
    rw (r.1, r.2) (counted_found (order_of p) p.extent p.store.now a.root (datoms_of a.n a.b.now) _ c.in_err-insert_fault.ensures)

pub returns-then-is_bad_root : goal.returns-then-is_bad_root
returns-then-is_bad_root c =
    let a = c.args in
    let p = a.pages.now in
    let bad = sym c.is_bad_root.ensures ∙ c.if-is_bad_root.true in
    counted_missing (order_of p) p.extent p.store.now a.root (datoms_of a.n a.b.now) c.in_ok-insert_fault.ensures bad

pub returns : goal.returns
returns c =
    let a = c.args in
    let p = a.pages.now in
    let known = sym c.is_bad_root.ensures ∙ c.if-is_bad_root.false in
    c.held_tree.ensures ∙ counted_on (order_of p) p.extent p.store.now a.root (datoms_of a.n a.b.now) c.in_ok-insert_fault.ensures known
