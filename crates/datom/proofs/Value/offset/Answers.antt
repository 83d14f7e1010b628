-- `Value::offset` meets its contract. Assumes nothing.
use mathlib.Core.Path.{refl}
use Rattle.datom.specs.Value.{offset_of}
use Rattle.datom.proofs.Value.offset.Goals as goal

pub returns : goal.returns
unfolding offset_of
returns c = refl
