-- `level_in` meets its contract. Assumes nothing.
use Rattle.rules.specs.Page.{node_of}
use Rattle.probe.specs.Laws.{of_unread, of_good}
use Rattle.probe.proofs.level_in.Goals as goal

pub returns-in_default : goal.returns-in_default
returns-in_default c = of_unread _ _ _ _ c.in_default.is c.look_at.ensures

pub returns : goal.returns
unfolding node_of
returns c = of_good _ _ _ c.in-Ok.is c.look_at.ensures (λ n. n.level)
