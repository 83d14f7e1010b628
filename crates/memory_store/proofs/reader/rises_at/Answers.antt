-- `rises_at` meets its contract: by the first words, by the second, or by what is behind them. Assumes nothing.
use Rattle.std.proofs.Common.{sym, ◌∙◌, arith}
use Rattle.memory_store.specs.Rises.{rises_first, rises_second, rises_rest}
use Rattle.memory_store.proofs.reader.rises_at.Goals as goal

pub returns-then-x-y : goal.returns-then-x-y
returns-then-x-y c =
    let a = c.args in
    let f = c.first_place.ensures in
    rises_first a.order.by a.order.heap.now a.s.now a.at _ _ (rw (← f) c.word-x.ensures) (rw (← f) c.word-y.ensures) c.if-x-y.true

pub returns-then-second_decides : goal.returns-then-second_decides
returns-then-second_decides c =
    let a = c.args in
    let f = c.first_place.ensures in
    let g = c.second_place.ensures in
    rises_second a.order.by a.order.heap.now a.s.now a.at c.word-x.result c.word-y.result (rw (← f) c.word-x.ensures) (rw (← f) c.word-y.ensures) (omega arith) c.word-u.result c.word-v.result
    (rw (← g) c.word-u.ensures) (rw (← g) c.word-v.ensures) (sym c.second_decides.ensures ∙ c.if-second_decides.true)

pub returns : goal.returns
returns c =
    let a = c.args in
    let f = c.first_place.ensures in
    let g = c.second_place.ensures in
    c.is_below_behind.ensures
    ∙ rw (c.word.ensures, c.word-2.ensures, c.word-3.ensures, c.word-4.ensures, c.word-5.ensures, c.word-6.ensures)
    (rises_rest a.order.by a.order.heap.now a.s.now a.at c.word-x.result c.word-y.result (rw (← f) c.word-x.ensures) (rw (← f) c.word-y.ensures) (omega arith) c.word-u.result c.word-v.result
    (rw (← g) c.word-u.ensures) (rw (← g) c.word-v.ensures) (sym c.second_decides.ensures ∙ c.if-second_decides.false))
