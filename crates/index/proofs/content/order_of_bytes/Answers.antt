-- `content::order_of_bytes` meets its contract: the rests compare as the whole does. Assumes nothing.
use native.Mathlib.Omega.{arith}
use mathlib.Core.Path.{◌≡◌, refl, sym, ◌∙◌, ap}
use Rattle.index.specs.Order.{named}
use Rattle.index.specs.Key.{swapped}
use Rattle.store.specs.Words.{word_at}
use Rattle.index.specs.Named.{numbers_named}
use Rattle.index.specs.Eight.{words_apart, words_on, swap_is}
use Rattle.index.proofs.content.order_of_bytes.Goals as goal

pub loop-i-init : goal.loop-i-init
loop-i-init c = (omega arith, refl)

pub word-requires : goal.word-requires
word-requires c = omega (arith, c.min-end.ensures)

pub word-requires-in-loop-i : goal.word-requires-in-loop-i
word-requires-in-loop-i c = omega arith

pub returns-then-x-y : goal.returns-then-x-y
returns-then-x-y c =
    let a = c.args in
    let l = c.loop-i in
    let x : c.swap_bytes-x.result ≡ swapped (word_at a.a.now l.i) = c.swap_bytes-x.ensures ∙ swap_is c.word.result (omega arith) ∙ ap swapped c.word.ensures in
    let y : c.swap_bytes-y.result ≡ swapped (word_at a.b.now l.i) = c.swap_bytes-y.ensures ∙ swap_is c.word-in-loop-i.result (omega arith) ∙ ap swapped c.word-in-loop-i.ensures in
    c.cmp.ensures ∙ numbers_named c.swap_bytes-x.result c.swap_bytes-y.result
    ∙ rw (x, y)
    (words_apart a.a.now a.b.now l.i (λ i. (c.shared_slice_known-1.given i).fits) (λ i. (c.shared_slice_known-2-1.given i).fits)
    (omega arith) (omega arith) (λ e. c.if-x-y.true (x ∙ e ∙ sym y)))
    ∙ ap named l.invariant.1

pub overflow_add-i : goal.overflow_add-i
overflow_add-i c = omega arith

pub loop-i-smaller : goal.loop-i-smaller
loop-i-smaller c = omega arith

pub loop-i-preserved : goal.loop-i-preserved
loop-i-preserved c =
    let a = c.args in
    let l = c.loop-i in (
      omega arith,
      words_on a.a.now a.b.now l.i (λ i. (c.shared_slice_known-1.given i).fits) (λ i. (c.shared_slice_known-2-1.given i).fits)
          (omega arith) (omega arith)
          (omega (arith, c.swap_bytes-x.ensures ∙ swap_is c.word.result (omega arith) ∙ ap swapped c.word.ensures, c.swap_bytes-y.ensures ∙ swap_is c.word-in-loop-i.result (omega arith) ∙ ap swapped c.word-in-loop-i.ensures, c.if-x-y.false))
          ∙ l.invariant.1,
    )

pub returns : goal.returns
returns c = c.order_of_bytes_from.ensures ∙ ap named c.loop-i.invariant.1
