-- `narrow` meets its contract: past the datoms the gap stays, else it ends at the lesser of its end and the next datom. Assumes nothing.
use Rattle.std.proofs.Common.{◌≡◌, true, false, arith}
use Rattle.store.specs.Cells.{cells_end}
use Rattle.datom.specs.Datom.{datom_of}
use Rattle.datom.specs.Laws.{datoms_from}
use Rattle.index.specs.Order.{ord, is_less}
use Rattle.index.specs.Named.{less_named_law}
use Rattle.lookup.specs.Gap.{narrowed}
use Rattle.lookup.proofs.gap.narrow.Goals as goal

pub returns-then-k-i : goal.returns-then-k-i
unfolding narrowed
returns-then-k-i c =
    let a = c.args in
    rw (cells_end datom_of 32 a.k a.i a.page.now (omega arith))

pub returns-in_default : goal.returns-in_default
unfolding narrowed
returns-in_default c =
    let a = c.args in
    rw (datoms_from a.k a.i a.page.now (omega arith), c.in_default.is, c.datom_at-next.ensures)

pub returns-then-is_below : goal.returns-then-is_below
unfolding narrowed
returns-then-is_below c =
    let a = c.args in
    let cmp = (ord a.order).cmp in
    let e : is_less (cmp c.datom_at-next.result c.in-Some.high) ≡ true = cc (less_named_law (cmp c.datom_at-next.result c.in-Some.high)) in
    rw (datoms_from a.k a.i a.page.now (omega arith), c.in-Some.is, ← c.datom_at-next.ensures, e)

pub returns : goal.returns
unfolding narrowed
returns c =
    let a = c.args in
    let cmp = (ord a.order).cmp in
    let e : is_less (cmp c.datom_at-next.result c.in-Some.high) ≡ false = cc (less_named_law (cmp c.datom_at-next.result c.in-Some.high)) in
    rw (datoms_from a.k a.i a.page.now (omega arith), c.in-Some.is, ← c.datom_at-next.ensures, e)
