-- `content::integer_of` meets its contract: the word itself, or the constant. Assumes nothing.
use mathlib.Core.Path.{sym, ◌∙◌}
use Rattle.datom.specs.Content.{content_int}
use Rattle.index.specs.Kinds.{integer_far}
use Rattle.index.proofs.content.integer_of.Goals as goal

pub returns-then-is_u64 : goal.returns-then-is_u64
returns-then-is_u64 c = content_int _ _ (sym c.is_u64.ensures ∙ c.if-is_u64.true)

pub returns : goal.returns
returns c =
    rw (c.get_u64.ensures, c.offset.ensures)
    (integer_far _ _ c.requires (sym c.is_u64.ensures ∙ c.if-is_u64.false))
