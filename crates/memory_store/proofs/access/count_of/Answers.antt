-- `count_of` meets its contract: the header's second byte is the count. Assumes nothing.
use Rattle.std.proofs.Common.{refl}
use Rattle.rules.specs.Page.{count_of}
use Rattle.memory_store.proofs.access.count_of.Goals as goal

pub returns : goal.returns
unfolding count_of
returns c = refl
