-- `key_of` meets its contract: an integer, a byte string, or above both. Assumes nothing.
use native.Mathlib.Omega.{arith}
use mathlib.Core.Path.{sym, ◌∙◌}
use Rattle.datom.specs.Value.{str_len}
use Rattle.index.specs.Key.{key}
use Rattle.index.specs.Keys.{turned_below}
use Rattle.index.proofs.key_of.Goals as goal

pub returns-then-is_u64 : goal.returns-then-is_u64
unfolding key
returns-then-is_u64 c = rw (sym c.is_u64.ensures ∙ c.if-is_u64.true)

pub overflow_mul-result : goal.overflow_mul-result
overflow_mul-result c = omega (arith, turned_below c.args.v.0)

pub overflow_add-result : goal.overflow_add-result
overflow_add-result c = omega (arith, turned_below c.args.v.0)

pub overflow_add-result-then-is_bytes : goal.overflow_add-result-then-is_bytes
overflow_add-result-then-is_bytes c = omega (arith, turned_below c.args.v.0)

pub returns-then-is_bytes : goal.returns-then-is_bytes
unfolding key str_len
returns-then-is_bytes c = rw (sym c.is_u64.ensures ∙ c.if-is_u64.false, sym c.is_bytes.ensures ∙ c.if-is_bytes.true, c.turn.ensures)

pub returns : goal.returns
unfolding key
returns c = rw (sym c.is_u64.ensures ∙ c.if-is_u64.false, sym c.is_bytes.ensures ∙ c.if-is_bytes.false)
