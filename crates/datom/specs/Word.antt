-- "Last word: an even transaction, plus 1 for assert, 0 for retract."
use Rattle.std.specs.Prelude.{ℕ, ◌+◌, ◌*◌, ◌/◌, ◌%◌, cond, eqb}
use Rattle.datom.specs.declared.Tid.{Tid}
use Rattle.datom.specs.declared.TidOp.{TidOp}
use Rattle.datom.specs.declared.Operation.{Operation}
use Rattle.datom.specs.declared.Operation.TheVariants.{Retract, Assert}

abbrev pub bit_of : Operation → ℕ
bit_of Retract = 0
bit_of Assert = 1

abbrev pub last_word : Tid → Operation → TidOp
last_word t o = record { 0 = t.0 / 2 * 2 + bit_of o }

abbrev pub transaction_of : TidOp → Tid
transaction_of w = record { 0 = w.0 / 2 * 2 }

abbrev pub operation_of : TidOp → Operation
operation_of w = cond (eqb (w.0 % 2) 1) Assert Retract
