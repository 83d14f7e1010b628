-- `index_in` meets its contract. Assumes nothing.
use Rattle.index.specs.Order.{ord}
use Rattle.listing.specs.Descent.{index_first, index_bound}
use mathlib.Core.Path.{◌∙◌}
use Rattle.datom.specs.Datom.{datoms_of}
use Rattle.listing.proofs.descent.index_in.Goals as goal

pub returns-in-None : goal.returns-in-None
returns-in-None c = let a = c.args in index_first (ord a.order) a.seek (datoms_of a.k a.part.now) c.in-None.is

pub returns-in-Some : goal.returns-in-Some
returns-in-Some c = let a = c.args in
    c.first_not_below.ensures ∙ index_bound (ord a.order) a.seek (datoms_of a.k a.part.now) _ c.in-Some.is
