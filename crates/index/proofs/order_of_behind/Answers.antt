-- `index::order_of_behind` meets its contract: the values decide, or the numbers behind them. Assumes nothing.
use Rattle.std.proofs.Common.{◌∙◌}
use Rattle.index.specs.Named.{numbers_named, then_three}
use Rattle.index.proofs.order_of_behind.Goals as goal

pub returns : goal.returns
returns c =
    let a = c.args in
    c.then-2.ensures
    ∙ rw (c.then.ensures, c.order_of_values.ensures, c.cmp.ensures, c.cmp-2.ensures, numbers_named a.x a.y, numbers_named a.s a.t) (then_three _ _ _)
