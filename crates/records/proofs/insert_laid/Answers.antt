-- `insert_laid` meets its contract: the byte entry's, at the bytes that are handed on. Assumes nothing.
use mathlib.Core.Path.{sym}
use lib.Seq.{length-take-le}
use Rattle.records.specs.Handed.{handed_area, handed_bytes, handed_fits}
use Rattle.records.proofs.insert_laid.Goals as goal

pub slice_bounds-b-end : goal.slice_bounds-b-end
unfolding handed_area
slice_bounds-b-end c =
    let a = c.args in
    handed_fits a.n a.s.now _ _ c.handed_length-m.ensures c.hand.ensures

pub slice_bounds-insert-end : goal.slice_bounds-insert-end
unfolding handed_area
slice_bounds-insert-end c =
    let a = c.args in
    sym (length-take-le _ _ (handed_fits a.n a.s.now _ _ c.handed_length-m.ensures c.hand.ensures))

pub returns : goal.returns
unfolding handed_bytes handed_area
returns c = rw (← c.handed_length-m.ensures, ← c.hand.ensures) c.insert.ensures
