-- `Datom::new` meets its contract: the last word is what `TidOp::new` makes. Assumes nothing.
use Rattle.datom.proofs.Datom.new.Goals as goal

pub returns : goal.returns
returns c = rw c.new-word.ensures
