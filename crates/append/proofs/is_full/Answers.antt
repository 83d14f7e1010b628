-- `append::is_full` meets its contract: the offset, the word, then the bytes behind it. Assumes nothing.
use native.Mathlib.Omega.{arith}
use Rattle.append.specs.Ways.{offset_large, no_word, no_bytes}
use Rattle.append.proofs.is_full.Goals as goal

pub returns-then-used-ge-OFFSETS : goal.returns-then-used-ge-OFFSETS
returns-then-used-ge-OFFSETS c = offset_large _ _ _ c.if-used-ge-OFFSETS.true

pub returns-then-free-lt8 : goal.returns-then-free-lt8
returns-then-free-lt8 c = no_word _ _ _ (omega arith) (omega arith) c.if-free-lt8.true

pub returns : goal.returns
returns c = no_bytes _ _ _ (omega arith) (omega arith) c.if-free-lt8.false
