-- `answer::Refusal::detail` meets its contract. Assumes nothing.
use mathlib.Core.Path.{sym, ap}
use Rattle.answer.specs.Table.{detail_of}
use Rattle.answer.proofs.Refusal.detail.Goals as goal

pub returns-in-Damaged : goal.returns-in-Damaged
returns-in-Damaged c = sym (ap detail_of c.in-Damaged.is)
