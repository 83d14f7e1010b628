-- `content::kind_of` meets its contract: by the tag, and by whether the constant is there. Assumes nothing.
use native.Mathlib.Omega.{arith}
use mathlib.Core.Path.{sym, ◌∙◌, ap}
use Rattle.heap.specs.Constant.{word_there, bytes_there}
use Rattle.index.specs.Kinds.{kind_int, kind_far_int, kind_lost_int, kind_str, kind_bad_str, kind_max, kind_far_str, kind_lost_str}
use Rattle.index.proofs.content.kind_of.Goals as goal

pub returns-then-v-lt-TAG_EXTERNAL : goal.returns-then-v-lt-TAG_EXTERNAL
returns-then-v-lt-TAG_EXTERNAL c = kind_int _ _ (omega arith)

pub returns-then-has_word : goal.returns-then-has_word
returns-then-has_word c = kind_far_int _ _ (omega arith) (omega arith) (ap (word_there _) (sym c.offset.ensures) ∙ sym c.has_word.ensures ∙ c.if-has_word.true)

pub returns-else-has_word : goal.returns-else-has_word
returns-else-has_word c = kind_lost_int _ _ (omega arith) (omega arith) (ap (word_there _) (sym c.offset.ensures) ∙ sym c.has_word.ensures ∙ c.if-has_word.false)

pub returns-then-is_bytes : goal.returns-then-is_bytes
returns-then-is_bytes c = kind_str _ _ (omega arith) (omega arith) (sym c.is_bytes.ensures ∙ c.if-is_bytes.true)

pub returns-else-is_bytes : goal.returns-else-is_bytes
returns-else-is_bytes c = kind_bad_str _ _ (omega arith) (omega arith) (sym c.is_bytes.ensures ∙ c.if-is_bytes.false)

pub returns-then-is_max : goal.returns-then-is_max
returns-then-is_max c = kind_max _ _ (sym c.is_max.ensures ∙ c.if-is_max.true)

pub returns-then-has_bytes : goal.returns-then-has_bytes
returns-then-has_bytes c =
    kind_far_str _ _ (omega arith) (omega arith) (sym c.is_max.ensures ∙ c.if-is_max.false)
    (ap (bytes_there _) (sym c.offset-2.ensures) ∙ sym c.has_bytes.ensures ∙ c.if-has_bytes.true)

pub returns-else-has_bytes : goal.returns-else-has_bytes
returns-else-has_bytes c =
    kind_lost_str _ _ (omega arith) (omega arith) (sym c.is_max.ensures ∙ c.if-is_max.false)
    (ap (bytes_there _) (sym c.offset-2.ensures) ∙ sym c.has_bytes.ensures ∙ c.if-has_bytes.false)
