-- `content::texts_rise` meets its contract. Assumes nothing.
use mathlib.Core.Path.{◌∙◌}
use Rattle.store.specs.Laws.{apart}
use Rattle.index.specs.Order.{cmp_value}
use Rattle.index.specs.Kinds.{both_texts}
use Rattle.index.proofs.content.texts_rise.Goals as goal

pub returns-then-not-names_text : goal.returns-then-not-names_text
returns-then-not-names_text c = λ e. absurd (apart (cc))

pub returns-then-not-names_text-2 : goal.returns-then-not-names_text-2
returns-then-not-names_text-2 c = λ e. absurd (apart (cc))

pub returns : goal.returns
unfolding cmp_value
returns c = λ e.
    c.first_rises.ensures e
    ∙ rw (c.get_bytes-2.ensures, c.offset-2.ensures, c.get_bytes.ensures, c.offset.ensures)
    (both_texts
    (c.names_text.ensures c.if-not-names_text.false)
    (c.names_text-2.ensures c.if-not-names_text-2.false))
