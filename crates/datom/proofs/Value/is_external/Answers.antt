-- `Value::is_external` meets its contract. Assumes nothing.
use mathlib.Core.Path.{refl}
use Rattle.datom.specs.Value.{is_external}
use Rattle.datom.proofs.Value.is_external.Goals as goal

pub returns : goal.returns
unfolding is_external
returns c = refl
