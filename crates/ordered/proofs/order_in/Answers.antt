-- `ordered::order_in` meets its contract: one law for each way through. Assumes nothing.
use Rattle.std.proofs.Common.{sym, ap, ◌∙◌, Option}
use Rattle.std.specs.Option.{ok_or}
use Rattle.answer.specs.declared.Refusal.TheVariants.{BadOrder}
use Rattle.index.specs.declared.Index.{Index}
use Rattle.ordered.specs.Ways.{heap_first, pages_next, order_named}
use Rattle.ordered.proofs.order_in.Goals as goal

pub returns-then-is_bad : goal.returns-then-is_bad
returns-then-is_bad c = heap_first _ _ _ (sym c.is_bad.ensures ∙ c.if-is_bad.true)

pub returns-then-bad : goal.returns-then-bad
returns-then-bad c = pages_next _ _ (sym c.is_bad.ensures ∙ c.if-is_bad.false) _ c.if-bad.true

pub returns : goal.returns
returns c =
    c.ok_or.ensures.value ∙ ap (λ (o : Option Index). ok_or o BadOrder) c.index_of.ensures
    ∙ order_named _ _ (sym c.is_bad.ensures ∙ c.if-is_bad.false) _ c.if-bad.false
