-- `past` meets its contract: a bit shifted by whole bytes. Assumes nothing.
use native.Mathlib.Omega.{arith}
use Rattle.datom.specs.Laws.{shifted}
use Rattle.datom.proofs.past.Goals as goal

pub returns : goal.returns
returns c = shifted c.args.n (omega arith)
