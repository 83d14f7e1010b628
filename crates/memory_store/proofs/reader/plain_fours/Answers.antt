-- `plain_fours` meets its contract: both rules on the rest of the list are the rules on the whole. Assumes nothing.
use Rattle.std.proofs.Common.{◌*◌, ◌∙◌, arith}
use Rattle.memory_store.specs.Fours.{four_on}
use Rattle.memory_store.proofs.reader.plain_fours.Goals as goal

pub loop-i-preserved : goal.loop-i-preserved
loop-i-preserved g c = (
  omega arith,
  λ t plain tells.
      let a = c.args in
      let l = c.loop-i in
      let v = c.four_integers.ensures c.if-four_integers.true in
      let s = four_on t plain a.k a.s.now l.i (omega arith) (tells (32 * l.i) v c.if-rise.ensures) v in
      let w = l.invariant.1 t plain tells in
      (w.0 ∙ s.0, w.1 ∙ s.1),
)
