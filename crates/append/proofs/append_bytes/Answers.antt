-- `append_bytes` meets its contract on every input. Assumes nothing.
use Rattle.rules.specs.Append.{append_text}
use Rattle.append.proofs.append_bytes.Goals as goal

pub returns : goal.returns
unfolding append_text
returns c = c.append_constant.ensures
