-- `empty` meets its contract: eight zeros. Assumes nothing.
use Rattle.listing.specs.Way.{way_of}
use Rattle.rules.specs.Listing.{eight}
use mathlib.Core.Path.{refl}
use Rattle.listing.proofs.way.empty.Goals as goal

pub returns : goal.returns
unfolding way_of eight
returns c = refl
