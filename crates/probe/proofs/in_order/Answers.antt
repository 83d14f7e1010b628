-- `in_order` meets its contract. Assumes nothing.
use mathlib.Core.Path.{sym, ◌∙◌, ap, ap₂}
use Rattle.datom.specs.declared.Datom.{Datom}
use Rattle.index.specs.Order.{ord, named}
use Rattle.probe.specs.Seen.{order_number}
use Rattle.probe.specs.Laws.{of_others, ordered, not_ordered}
use Rattle.probe.proofs.in_order.Goals as goal

pub returns-then-a-ne32 : goal.returns-then-a-ne32
returns-then-a-ne32 c = of_others _ _ c.if-a-ne32.true

pub returns-then-b-ne32 : goal.returns-then-b-ne32
returns-then-b-ne32 c = not_ordered (ord c.args.order) _ _ c.if-a-ne32.false c.if-b-ne32.true

pub returns-in-Less : goal.returns-in-Less
returns-in-Less c =
    let a = c.args in
    ap order_number (sym c.in-Less.is)
    ∙ ordered (ord a.order) a.a.now a.b.now c.if-a-ne32.false c.if-b-ne32.false
    (c.cmp.ensures ∙ ap₂ (λ (x y : Datom). named ((ord a.order).cmp x y)) c.datom_at.ensures c.datom_at-2.ensures)

pub returns-in-Equal : goal.returns-in-Equal
returns-in-Equal c =
    let a = c.args in
    ap order_number (sym c.in-Equal.is)
    ∙ ordered (ord a.order) a.a.now a.b.now c.if-a-ne32.false c.if-b-ne32.false
    (c.cmp.ensures ∙ ap₂ (λ (x y : Datom). named ((ord a.order).cmp x y)) c.datom_at.ensures c.datom_at-2.ensures)

pub returns-in-Greater : goal.returns-in-Greater
returns-in-Greater c =
    let a = c.args in
    ap order_number (sym c.in-Greater.is)
    ∙ ordered (ord a.order) a.a.now a.b.now c.if-a-ne32.false c.if-b-ne32.false
    (c.cmp.ensures ∙ ap₂ (λ (x y : Datom). named ((ord a.order).cmp x y)) c.datom_at.ensures c.datom_at-2.ensures)
