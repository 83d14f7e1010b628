-- `older_front` meets its contract: the test on the rest of the list is the test on the whole. Assumes nothing.
use Rattle.std.proofs.Common.{sym, ◌∙◌, arith}
use Rattle.memory_store.specs.Fours.{older_on}
use Rattle.memory_store.proofs.reader.older_front.Goals as goal

pub loop-i-preserved : goal.loop-i-preserved
loop-i-preserved c =
    let a = c.args in
    let l = c.loop-i in
    (omega arith, sym (older_on a.id a.n a.at a.s.now l.i (omega arith) (c.four_older.ensures c.if-four_older.true)) ∙ l.invariant.1)
