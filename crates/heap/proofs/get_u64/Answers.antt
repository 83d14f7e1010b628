-- `heap::get_u64` meets its contract. Assumes nothing.
use mathlib.Core.Path.{sym, ◌∙◌}
use Rattle.heap.specs.Laws.{word_in, integer_there, integer_gone}
use Rattle.heap.proofs.get_u64.Goals as goal

pub returns-then-not-has_word : goal.returns-then-not-has_word
returns-then-not-has_word c = integer_gone _ _ (sym c.has_word.ensures ∙ c.if-not-has_word.true)

pub word-requires : goal.word-requires
word-requires c = word_in _ _ (sym c.has_word.ensures ∙ c.if-not-has_word.false)

pub returns : goal.returns
returns c = c.word.ensures ∙ integer_there _ _ (sym c.has_word.ensures ∙ c.if-not-has_word.false)
