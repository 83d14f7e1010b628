-- `turn` meets its contract: all bytes swapped, and the lowest of them gone. Assumes nothing.
use Rattle.std.proofs.Common.{arith}
use Rattle.index.specs.Eight.{turn_is}
use Rattle.index.proofs.turn.Goals as goal

pub returns : goal.returns
returns c = omega (arith, c.swap_bytes.ensures, turn_is c.args.v (omega arith))
