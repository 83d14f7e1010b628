-- `Datom::is_stored` meets its contract: its value decides. Assumes nothing.
use Rattle.datom.specs.Datom.{stored_datom}
use Rattle.datom.proofs.Datom.is_stored.Goals as goal

pub returns : goal.returns
unfolding stored_datom
returns c = c.is_stored.ensures
