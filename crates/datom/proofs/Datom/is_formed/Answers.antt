-- `Datom::is_formed` meets its contract: its value decides. Assumes nothing.
use Rattle.datom.specs.Datom.{formed_datom}
use Rattle.datom.proofs.Datom.is_formed.Goals as goal

pub returns : goal.returns
unfolding formed_datom
returns c = c.is_formed.ensures
