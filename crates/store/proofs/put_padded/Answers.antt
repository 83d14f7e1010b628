-- `put_padded` meets its contract: zeros behind a store. Assumes nothing.
use native.Mathlib.Omega.{arith}
use mathlib.Core.Path.{◌∙◌}
use Rattle.store.specs.Padding.{padded}
use Rattle.store.proofs.put_padded.Goals as goal

pub returns : goal.returns
returns c =
    let a = c.args in
    c.clear.ensures
    ∙ rw c.put.ensures (padded a.s.now a.at a.room a.p.now (omega arith) (omega arith))
