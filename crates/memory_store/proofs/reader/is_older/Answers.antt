-- `is_older` meets its contract: the number after a word tells. Assumes nothing.
use Rattle.std.proofs.Common.{arith}
use Rattle.memory_store.specs.Steps.{older_word}
use Rattle.memory_store.proofs.reader.is_older.Goals as goal

pub returns : goal.returns
returns c = rw (c.wrapping_add_u64.ensures.value, ← c.word.ensures) (older_word _ _ (omega arith))
