-- `nothing` meets its contract: no frames. Assumes nothing.
use mathlib.Core.Path.{refl}
use Rattle.rules.specs.Listing.{cursor_of, eight}
use Rattle.listing.proofs.begin.nothing.Goals as goal

pub returns : goal.returns
unfolding cursor_of eight
returns c = refl
