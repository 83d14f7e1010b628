-- `all_older` meets its contract: the test on the rest of the list is the test on the whole. Assumes nothing.
use Rattle.std.proofs.Common.{sym, ◌∙◌, arith}
use Rattle.store.specs.Page.{page_of}
use Rattle.store.specs.Cells.{pages_from}
use Rattle.rules.specs.Page.{older}
use Rattle.memory_store.specs.Steps.{all_on, all_stop, all_end}
use Rattle.memory_store.proofs.reader.all_older.Goals as goal

pub returns-then-not-is_older : goal.returns-then-not-is_older
returns-then-not-is_older c =
    let a = c.args in
    let l = c.loop-i in
    sym (all_stop (older a.id) (pages_from a.n l.i a.at a.s.now (omega arith)) (sym c.is_older.ensures ∙ c.if-not-is_older.true)) ∙ l.invariant

pub loop-i-preserved : goal.loop-i-preserved
loop-i-preserved c =
    let a = c.args in
    let l = c.loop-i in
    sym (all_on (older a.id) (pages_from a.n l.i a.at a.s.now (omega arith)) (sym c.is_older.ensures ∙ c.if-not-is_older.false)) ∙ l.invariant

pub returns : goal.returns
returns c = let l = c.loop-i in sym (all_end (older c.args.id) page_of 8 _ l.i _ (omega arith)) ∙ l.invariant
