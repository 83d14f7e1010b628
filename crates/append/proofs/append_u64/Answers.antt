-- `append_u64` meets its contract on every input. Assumes nothing.
use Rattle.rules.specs.Append.{append_word}
use Rattle.append.proofs.append_u64.Goals as goal

pub returns : goal.returns
unfolding append_word
returns c = c.append_constant.ensures
