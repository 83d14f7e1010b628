-- `index::order_of_values` meets its contract: by the keys of values that stand in their words, by the contents of all others. Assumes nothing.
use mathlib.Core.Path.{sym, ap, ◌∙◌}
use Rattle.index.specs.Order.{named}
use Rattle.index.specs.Keys.{keyed}
use Rattle.index.specs.Named.{numbers_named}
use Rattle.index.proofs.order_of_values.Goals as goal

pub returns-then-not-is_external-2 : goal.returns-then-not-is_external-2
returns-then-not-is_external-2 c =
    let near = sym c.is_external.ensures ∙ c.if-not-is_external.true in
    let near-too = sym c.is_external-then-not-is_external.ensures ∙ c.if-not-is_external-2.true in
    c.cmp.ensures
    ∙ numbers_named c.key_of.result c.key_of-then-not-is_external-2.result
    ∙ ap named (rw (c.key_of.ensures, c.key_of-then-not-is_external-2.ensures) (sym (keyed _ _ _ near near-too)))
