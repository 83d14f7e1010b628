-- `store::word` meets its contract: eight bytes read as one number are the word there. Assumes nothing.
use native.Mathlib.Omega.{arith}
use mathlib.Core.Path.{◌∙◌}
use Rattle.store.specs.Cells.{le_word, word_is}
use Rattle.store.proofs.word.Goals as goal

pub returns : goal.returns
returns c = c.from_le_bytes.ensures ∙ le_word _ _ _ _ _ _ _ _ ∙ word_is _ _ (omega arith)
