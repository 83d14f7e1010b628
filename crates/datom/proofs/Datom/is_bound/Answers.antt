-- `Datom::is_bound` meets its contract: its value decides. Assumes nothing.
use Rattle.datom.specs.Datom.{bound_datom}
use Rattle.datom.proofs.Datom.is_bound.Goals as goal

pub returns : goal.returns
unfolding bound_datom
returns c = c.is_bound.ensures
