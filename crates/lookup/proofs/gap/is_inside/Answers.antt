-- `is_inside` meets its contract: an open gap has no end, else the comparison with the end says it. Assumes nothing.
use Rattle.std.proofs.Common.{arith, ◌≡◌, Bool, true, Some, None, MatchOption}
use Rattle.datom.specs.declared.Datom.{Datom}
use Rattle.index.specs.Order.{DatomOrd, is_less}
use Rattle.index.specs.Named.{less_named_law}
use Rattle.lookup.specs.Gap.{Gap, inside}
use Rattle.lookup.proofs.gap.is_inside.Goals as goal

or_inside :
    (t : DatomOrd) (d : Datom) (g : Gap) (b : Bool) {P : Datom → Type 0} → MatchOption g (b ≡ true) P →
    ((x : Datom) → P x → b ≡ is_less (t.cmp d x)) → b ≡ inside t g d
unfolding inside
or_inside t d None b m f = m
or_inside t d (Some x) b m f = f x m

pub returns : goal.returns
returns c = or_inside _ _ _ _ c.is_none_or.ensures (λ x p. grind (arith, less_named_law))
