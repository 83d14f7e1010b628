-- `content::order_of_bytes_from` meets its contract: the rests compare as what they are the rests of. Assumes nothing.
use Rattle.std.proofs.Common.{arith, ap, ◌∙◌, slice_index_or, length, ◌≡◌}
use Rattle.index.specs.Order.{named}
use Rattle.index.specs.Named.{numbers_named}
use Rattle.index.specs.Strings.{bytes_apart, bytes_on, bytes_over}
use Rattle.index.proofs.content.order_of_bytes_from.Goals as goal

pub returns-then-a-i : goal.returns-then-a-i
returns-then-a-i c =
    let a = c.args in
    let l = c.loop-i in
    c.cmp.ensures ∙ numbers_named (slice_index_or a.a.now l.i 0) (slice_index_or a.b.now l.i 0)
    ∙ bytes_apart a.a.now a.b.now l.i (omega arith) (omega arith) c.if-a-i.true ∙ ap named l.invariant

pub loop-i-preserved : goal.loop-i-preserved
loop-i-preserved c =
    let a = c.args in
    let l = c.loop-i in
    bytes_on a.a.now a.b.now l.i (omega arith) (omega arith) c.if-a-i.false ∙ l.invariant

pub returns : goal.returns
returns c =
    let a = c.args in
    let l = c.loop-i in
    let e : l.i ≡ c.min-i-end.result = omega (arith, c.min-i-end.ensures, l.auto.i-end) in
    c.cmp-2.ensures ∙ numbers_named (length a.a.now) (length a.b.now)
    ∙ bytes_over a.a.now a.b.now l.i (e ∙ c.min-i-end.ensures)
    ∙ ap named l.invariant
