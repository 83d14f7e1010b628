-- `write_in` meets its contract. Assumes nothing.
use native.Mathlib.Omega.{arith}
use mathlib.Core.Path.{◌∙◌}
use Rattle.index.specs.Order.{ord}
use Rattle.probe.specs.Laws.{good_held, not_written, no_place, written}
use Rattle.probe.proofs.write_in.Goals as goal

pub returns-in_default : goal.returns-in_default
returns-in_default c = not_written _ _ _ _ c.in_default.is c.look_at.ensures

pub returns-then-free-size : goal.returns-then-free-size
returns-then-free-size c = no_place _ _ _ _ c.in-Ok.is c.look_at.ensures c.if-free-size.true

pub write_page-requires : goal.write_page-requires
write_page-requires c =
    let h = good_held _ _ _ c.in-Ok.is c.look_at.ensures in
    let e = c.capacity_of-c.ensures in
    (omega arith, omega arith, omega arith, omega arith, omega arith, omega arith, omega arith, omega arith)

pub returns : goal.returns
returns c =
    let a = c.args in
    let w = written (ord a.order) a.bytes.now a.free.now a.id c.in-Ok.is c.look_at.ensures (omega arith) in
    (w.0, c.write_page.ensures ∙ (rw c.capacity_of-c.ensures w.1))
