-- `is_met` meets its contract: past the datoms there is none, else the comparison says it. Assumes nothing.
use Rattle.std.proofs.Common.{sym, ◌∙◌}
use borrow.Author.Tests.{le-ltb}
use Rattle.index.specs.Order.{ord}
use Rattle.index.specs.Named.{same_named_law}
use Rattle.lookup.specs.Steps.{same_past, same_at}
use Rattle.lookup.proofs.is_met.Goals as goal

pub returns-then-i-k : goal.returns-then-i-k
returns-then-i-k c =
    let a = c.args in
    c.is_eq.ensures
    ∙ rw (c.cmp.ensures, c.datom_at.ensures) (same_named_law _ ∙ sym (same_at (ord a.order).cmp a.d a.k a.i a.page.now c.if-i-k.true))

pub returns-else-i-k : goal.returns-else-i-k
returns-else-i-k c =
    let a = c.args in
    le-ltb a.i a.k c.if-i-k.false ∙ sym (same_past (ord a.order).cmp a.d a.k a.i a.page.now c.if-i-k.false)
