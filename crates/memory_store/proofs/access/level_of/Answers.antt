-- `level_of` meets its contract: the header's first byte is the level. Assumes nothing.
use Rattle.std.proofs.Common.{refl}
use Rattle.rules.specs.Page.{level_of}
use Rattle.memory_store.proofs.access.level_of.Goals as goal

pub returns : goal.returns
unfolding level_of
returns c = refl
