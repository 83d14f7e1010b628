-- `heap::has_bytes` meets its contract. Assumes nothing.
use native.Mathlib.Omega.{arith}
use mathlib.Core.Path.{sym, ◌∙◌}
use Rattle.heap.specs.Laws.{word_in, bytes_none, counts}
use Rattle.heap.proofs.has_bytes.Goals as goal

pub returns-then-not-has_word : goal.returns-then-not-has_word
returns-then-not-has_word c = bytes_none _ _ (sym c.has_word.ensures ∙ c.if-not-has_word.true)

pub word-n-requires : goal.word-n-requires
word-n-requires c = word_in _ _ (sym c.has_word.ensures ∙ c.if-not-has_word.false)

pub overflow_sub-result : goal.overflow_sub-result
overflow_sub-result c = omega (arith, word_in _ _ (sym c.has_word.ensures ∙ c.if-not-has_word.false))

pub overflow_sub-result-2 : goal.overflow_sub-result-2
overflow_sub-result-2 c = omega (arith, word_in _ _ (sym c.has_word.ensures ∙ c.if-not-has_word.false))

pub returns : goal.returns
returns c =
    rw c.word-n.ensures (counts _ _ (sym c.has_word.ensures ∙ c.if-not-has_word.false))
