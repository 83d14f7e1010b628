-- `datom_at` meets its contract: four words one after the other. Assumes nothing.
use Rattle.datom.specs.Datom.{datom_at}
use Rattle.datom.proofs.datom_at.Goals as goal

pub returns : goal.returns
unfolding datom_at
returns c = cc
