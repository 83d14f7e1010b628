-- `Value::is_u64` meets its contract. Assumes nothing.
use mathlib.Core.Path.{refl}
use Rattle.datom.specs.Value.{is_int}
use Rattle.datom.proofs.Value.is_u64.Goals as goal

pub returns : goal.returns
unfolding is_int
returns c = refl
