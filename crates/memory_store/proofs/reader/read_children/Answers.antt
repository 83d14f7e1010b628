-- `read_children` meets its contract: one law for each way through. Assumes nothing.
use Rattle.std.proofs.Common.{sym, ◌∙◌, arith}
use Rattle.memory_store.specs.Reading.{said}
use Rattle.memory_store.specs.Steps.{older_zero}
use Rattle.memory_store.specs.Ways.{way_leaf, way_flat, way_last, way_child, way_tall}
use Rattle.memory_store.proofs.reader.read_children.Goals as goal

pub returns-then-not-all_older : goal.returns-then-not-all_older
unfolding said
returns-then-not-all_older c = way_leaf _ _ _ _ _ c.if-level-eq0.true (sym (older_zero _) ∙ sym c.all_older.ensures ∙ c.if-not-all_older.true)

pub returns-then-level-eq0 : goal.returns-then-level-eq0
unfolding said
returns-then-level-eq0 c = way_flat _ _ _ _ _ c.if-level-eq0.true (sym (older_zero _) ∙ sym c.all_older.ensures ∙ c.if-not-all_older.false)

pub returns-then-word : goal.returns-then-word
unfolding said
returns-then-word c = way_last _ _ _ _ _ c.if-level-eq0.false (omega arith)

pub returns-then-not-all_older-2 : goal.returns-then-not-all_older-2
unfolding said
returns-then-not-all_older-2 c = way_child _ _ _ _ _ c.if-level-eq0.false (λ q. omega arith) (sym c.all_older-2.ensures ∙ c.if-not-all_older-2.true)

pub returns : goal.returns
unfolding said
returns c = way_tall _ _ _ _ _ c.if-level-eq0.false (λ q. omega arith) (sym c.all_older-2.ensures ∙ c.if-not-all_older-2.false)
