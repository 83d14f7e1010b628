-- `child_in` meets its contract. Assumes nothing.
use native.Mathlib.Omega.{arith}
use mathlib.Core.Path.{◌∙◌, ap}
use lib.ListN.{length, get_or}
use Rattle.store.specs.declared.PageId.{PageId}
use Rattle.store.specs.Page.{none}
use Rattle.store.specs.Size.{capacity}
use Rattle.rules.specs.Page.{node_of}
use Rattle.probe.specs.Laws.{of_unread, of_good, good_held, child_here, child_past}
use Rattle.probe.proofs.child_in.Goals as goal

pub returns-in_default : goal.returns-in_default
returns-in_default c = of_unread _ _ _ _ c.in_default.is c.look_at.ensures

pub returns-then-header-i : goal.returns-then-header-i
unfolding node_of
returns-then-header-i c =
    let a = c.args in
    ap (λ (p : PageId). p.0) (child_past a.bytes.now (capacity (length a.bytes.now)) _ a.i c.if-header-i.true)
    ∙ of_good _ _ _ c.in-Ok.is c.look_at.ensures (λ n. (get_or n.children a.i none).0)

pub child_at-child-requires : goal.child_at-child-requires
child_at-child-requires c =
    let h = good_held _ _ _ c.in-Ok.is c.look_at.ensures in
    omega (arith, h.few, h.fits, c.capacity_of-c.ensures)

pub returns : goal.returns
unfolding node_of
returns c =
    let a = c.args in
    let k = c.in-Ok.header.count in
    let e = child_here a.bytes.now (capacity (length a.bytes.now)) k a.i (omega arith) in
    ap (λ (p : PageId). p.0) (c.child_at-child.ensures ∙ rw c.capacity_of-c.ensures e)
    ∙ of_good _ _ _ c.in-Ok.is c.look_at.ensures (λ n. (get_or n.children a.i none).0)
