-- `is_midpoint_at` meets its contract: the child there is not none. Assumes nothing.
use Rattle.std.proofs.Common.{suc, ◌*◌, arith}
use Rattle.store.specs.Page.{none}
use Rattle.store.specs.Cells.{pages_at}
use Rattle.rules.specs.Node.{is_midpoint}
use Rattle.memory_store.proofs.access.is_midpoint_at.Goals as goal

pub returns : goal.returns
unfolding is_midpoint
returns c =
    let a = c.args in
    rw (c.is_none.ensures, c.child_at.ensures, pages_at (suc a.n) a.i (32 * a.m) a.s.now none (omega arith))
