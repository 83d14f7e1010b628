-- `content::order_of_contents` meets its contract: two byte strings of the heap by their bytes, all else by kinds. Assumes nothing.
use mathlib.Core.Path.{◌∙◌}
use Rattle.index.specs.Order.{cmp_value}
use Rattle.index.specs.Kinds.{both_texts}
use Rattle.index.proofs.content.order_of_contents.Goals as goal

pub returns : goal.returns
unfolding cmp_value
returns c =
    c.order_of_bytes.ensures
    ∙ rw (c.get_bytes-2.ensures, c.offset-2.ensures, c.get_bytes.ensures, c.offset.ensures)
    (both_texts
    (c.names_text.ensures c.if-not-names_text.false)
    (c.names_text-2.ensures c.if-not-names_text-2.false))
