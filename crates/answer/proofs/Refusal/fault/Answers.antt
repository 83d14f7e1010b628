-- `answer::Refusal::fault` meets its contract. Assumes nothing.
use mathlib.Core.Path.{ap}
use Rattle.answer.specs.Names.{fault_in}
use Rattle.answer.proofs.Refusal.fault.Goals as goal

pub returns-in-Damaged : goal.returns-in-Damaged
returns-in-Damaged c = cc (ap fault_in c.in-Damaged.is)
