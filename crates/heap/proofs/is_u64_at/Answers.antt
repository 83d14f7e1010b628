-- `heap::is_u64_at` meets its contract: each test of the definition in turn. Assumes nothing.
use mathlib.Core.Path.{sym, ◌∙◌}
use Rattle.heap.specs.Laws.{word_in, int_askew, int_gone, int_there}
use Rattle.heap.proofs.is_u64_at.Goals as goal

pub returns-then-offset-ne0 : goal.returns-then-offset-ne0
returns-then-offset-ne0 c = int_askew _ _ c.if-offset-ne0.true

pub returns-then-not-has_word : goal.returns-then-not-has_word
returns-then-not-has_word c = int_gone _ _ c.if-offset-ne0.false (sym c.has_word.ensures ∙ c.if-not-has_word.true)

pub word-requires : goal.word-requires
word-requires c = word_in _ _ (sym c.has_word.ensures ∙ c.if-not-has_word.false)

pub returns : goal.returns
returns c =
    rw c.word.ensures
    (int_there _ _ c.if-offset-ne0.false (sym c.has_word.ensures ∙ c.if-not-has_word.false))
