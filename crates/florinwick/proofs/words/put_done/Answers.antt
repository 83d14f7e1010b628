-- `put_done` meets its contract. Assumes nothing.
use mathlib.Core.Path.{refl}
use Rattle.florinwick.proofs.words.put_done.Goals as goal

pub returns : goal.returns
returns c = (refl, c.put_words.ensures)
