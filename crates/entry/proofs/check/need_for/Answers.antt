-- `need_for` meets its contract. Assumes nothing.
use native.Mathlib.Omega.{arith}
use Rattle.entry.specs.Scratch.{room_is, need_is}
use Rattle.entry.proofs.check.need_for.Goals as goal

pub overflow_mul-result : goal.overflow_mul-result
overflow_mul-result c = omega (arith, room_is c.args.c, c.room_for-m.ensures)

pub overflow_add-result : goal.overflow_add-result
overflow_add-result c = omega (arith, room_is c.args.c, c.room_for-m.ensures)

pub overflow_mul-result-2 : goal.overflow_mul-result-2
overflow_mul-result-2 c = omega (arith, room_is c.args.c, c.room_for-m.ensures)

pub overflow_mul-result-3 : goal.overflow_mul-result-3
overflow_mul-result-3 c = omega (arith, room_is c.args.c, c.room_for-m.ensures)

pub overflow_add-result-2 : goal.overflow_add-result-2
overflow_add-result-2 c = omega (arith, room_is c.args.c, c.room_for-m.ensures)

pub returns : goal.returns
returns c = need_is _ _ c.room_for-m.ensures
