-- The starred examples of document 01, a to j, proved.
use Rattle.std.specs.Prelude.{refl}
use Rattle.rules.specs.Table.{Holds, starred}
use Rattle.rules.specs.Open.{rules}

pub examples : Holds starred
unfolding rules
examples =
    (refl, (refl, (refl, (refl, (refl, (refl, (refl, (refl, (refl, (refl, (refl, (refl, (refl, (refl, (refl, (refl, (refl, (refl, (refl, tt)))))))))))))))))))
