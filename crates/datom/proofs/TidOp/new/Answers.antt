-- `TidOp::new` meets its contract: the operation's bit stands beside the even part. Assumes nothing.
use native.Mathlib.Nat.{add-zero}
use Rattle.datom.proofs.TidOp.new.Goals as goal

pub returns-in-Retract : goal.returns-in-Retract
returns-in-Retract c = rw (c.in-Retract.is, add-zero)

pub returns-in-Assert : goal.returns-in-Assert
returns-in-Assert c = rw c.in-Assert.is
