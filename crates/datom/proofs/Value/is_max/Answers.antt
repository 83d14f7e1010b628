-- `Value::is_max` meets its contract. Assumes nothing.
use mathlib.Core.Path.{refl}
use Rattle.datom.specs.Value.{is_max}
use Rattle.datom.proofs.Value.is_max.Goals as goal

pub returns : goal.returns
unfolding is_max
returns c = refl
