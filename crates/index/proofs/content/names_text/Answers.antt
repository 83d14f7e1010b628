-- `content::names_text` meets its contract: by the tag, and by whether the constant is there. Assumes nothing.
use native.Mathlib.Omega.{arith}
use mathlib.Core.Path.{sym, ◌∙◌, ap}
use Rattle.store.specs.Laws.{apart}
use Rattle.heap.specs.Constant.{bytes_there}
use Rattle.index.specs.Kinds.{text_there}
use Rattle.index.proofs.content.names_text.Goals as goal

pub returns-then-v-lt-TAG_MASK : goal.returns-then-v-lt-TAG_MASK
returns-then-v-lt-TAG_MASK c = λ e. absurd (apart (cc))

pub returns-then-is_max : goal.returns-then-is_max
returns-then-is_max c = λ e. absurd (apart (cc))

pub returns : goal.returns
returns c = λ e.
    text_there _ _ (omega arith) (omega arith) (sym c.is_max.ensures ∙ c.if-is_max.false)
    (ap (bytes_there _) (sym c.offset.ensures) ∙ sym c.has_bytes.ensures ∙ e)
