-- `lay` meets its contract: the first records of a slice, as many as it has, are all of it. Assumes nothing.
use Rattle.records.specs.Laid.{first_all}
use Rattle.records.proofs.lay.Goals as goal

pub returns : goal.returns
returns c = rw first_all at c.lay_first.ensures
