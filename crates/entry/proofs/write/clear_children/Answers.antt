-- `clear_children` meets its contract: none is stored at one index after another. Assumes nothing.
use native.Mathlib.Omega.{arith}
use Rattle.entry.specs.Leaf.{cleared_start, cleared_on}
use Rattle.entry.proofs.write.clear_children.Goals as goal

pub loop-i-init : goal.loop-i-init
loop-i-init c = cleared_start _ _

pub loop-i-preserved : goal.loop-i-preserved
loop-i-preserved c = rw (c.put_child.ensures, c.max.ensures) (cleared_on _ _ _ _ c.loop-i.invariant (omega arith) c.requires.0)
