-- `start_at` meets its contract: a way that is lost refuses the start, the lower first. Assumes nothing.
use borrow.Author.Rules.{rules}
use mathlib.Core.Path.{◌≡◌, ap, ◌∙◌}
use Rattle.std.specs.Prelude.{Some, Err}
use Rattle.answer.specs.Damage.{damaged}
use Rattle.memory_store.specs.Pages.{order_of}
use Rattle.listing.specs.Descent.{test_of, down_of}
use Rattle.listing.specs.Fill.{down_long}
use Rattle.listing.specs.Starts.{started_as, was_lost, came_down, full_of, upper_lost, both_down}
use Rattle.listing.proofs.begin.start_at.Goals as goal

pub returns-in_err-begin : goal.returns-in_err-begin
returns-in_err-begin c =
    let a = c.args in
    let p = a.pages.now in
    let lower = down_of (order_of p) p.extent p.store.now (test_of (order_of p) (Some a.lower)) a.level a.root in
    let upper = down_of (order_of p) p.extent p.store.now (test_of (order_of p) (Some a.upper)) a.level a.root in
    let d = c.in_err-begin.field-0.0 in
    let k : c.from_residual.result ≡ Err (damaged d) = search rules in
    ap started_as k ∙ was_lost a.level _ c.descend.result d.page d.fault lower c.descend.ensures c.in_err-begin.was upper

pub returns-in_err-end : goal.returns-in_err-end
returns-in_err-end c =
    let pre = c.requires in
    let a = c.args in
    let p = a.pages.now in
    let lower = down_of (order_of p) p.extent p.store.now (test_of (order_of p) (Some a.lower)) a.level a.root in
    let upper = down_of (order_of p) p.extent p.store.now (test_of (order_of p) (Some a.upper)) a.level a.root in
    let D = came_down a.level _ c.descend.result c.in_ok-begin.begin lower c.descend.ensures c.in_ok-begin.was pre (full_of _ c.empty-empty.ensures)
    (down_long (order_of p) p.extent p.store.now (test_of (order_of p) (Some a.lower)) a.level a.root) in
    let d = c.in_err-end.field-0.0 in
    let k : c.from_residual-in_err-end.result ≡ Err (damaged d) = search rules in
    ap started_as k ∙ upper_lost a.level _ _ c.descend.result c.descend-2.result _ lower upper D d.page d.fault c.descend-2.ensures c.in_err-end.was

pub returns : goal.returns
returns c =
    let pre = c.requires in
    let a = c.args in
    let p = a.pages.now in
    let lower = down_of (order_of p) p.extent p.store.now (test_of (order_of p) (Some a.lower)) a.level a.root in
    let upper = down_of (order_of p) p.extent p.store.now (test_of (order_of p) (Some a.upper)) a.level a.root in
    let D = came_down a.level _ c.descend.result c.in_ok-begin.begin lower c.descend.ensures c.in_ok-begin.was pre (full_of _ c.empty-empty.ensures)
    (down_long (order_of p) p.extent p.store.now (test_of (order_of p) (Some a.lower)) a.level a.root) in
    let G = came_down a.level _ c.descend-2.result c.in_ok-end.end upper c.descend-2.ensures c.in_ok-end.was pre (full_of _ c.empty-empty.ensures)
    (down_long (order_of p) p.extent p.store.now (test_of (order_of p) (Some a.upper)) a.level a.root) in
    rw c.cursor_of.ensures (both_down a.level _ _ c.descend.result c.descend-2.result _ lower upper D _ G)
