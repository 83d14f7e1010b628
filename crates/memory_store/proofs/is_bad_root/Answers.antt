-- `is_bad_root` meets its contract. Assumes nothing.
use Rattle.std.proofs.Common.{arith}
use Rattle.rules.specs.Store.{bad_root}
use Rattle.memory_store.proofs.is_bad_root.Goals as goal

pub returns-then-not-is_none : goal.returns-then-not-is_none
unfolding bad_root
returns-then-not-is_none c = grind (arith, c.is_none.ensures, c.if-not-is_none.true)

pub returns-else-not-is_none : goal.returns-else-not-is_none
unfolding bad_root
returns-else-not-is_none c = grind (arith, c.is_none.ensures, c.if-not-is_none.false)
