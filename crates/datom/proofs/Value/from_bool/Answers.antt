-- `Value::from_bool` meets its contract, by the flag. Assumes nothing.
use Rattle.datom.proofs.Value.from_bool.Goals as goal

pub returns-then-value : goal.returns-then-value
returns-then-value c = rw c.if-value.true

pub returns-else-value : goal.returns-else-value
returns-else-value c = rw c.if-value.false
