-- `TidOp::operation` meets its contract, by the low bit. Assumes nothing.
use borrow.Author.Tests.{eq-eqb, ne_eqb}
use Rattle.datom.proofs.TidOp.operation.Goals as goal

pub returns-then-self-eq-ASSERT : goal.returns-then-self-eq-ASSERT
returns-then-self-eq-ASSERT c = rw (eq-eqb _ _ c.if-self-eq-ASSERT.true)

pub returns : goal.returns
returns c = rw (ne_eqb _ _ c.if-self-eq-ASSERT.false)
