-- `word_in` meets its contract. Assumes nothing.
use native.Mathlib.Omega.{arith}
use mathlib.Core.Path.{◌∙◌}
use lib.ListN.{drop}
use Rattle.rules.specs.Page.{node_of}
use Rattle.probe.specs.Seen.{head_word}
use Rattle.probe.specs.Laws.{of_unread, of_good, good_held, word_here, word_past, word_none}
use Rattle.probe.proofs.word_in.Goals as goal

pub returns-in_default : goal.returns-in_default
returns-in_default c = of_unread _ _ _ _ c.in_default.is c.look_at.ensures

pub returns-then-header-i : goal.returns-then-header-i
unfolding node_of
returns-then-header-i c =
    let a = c.args in
    word_past a.bytes.now _ _ _ c.if-header-i.true ∙ of_good _ _ _ c.in-Ok.is c.look_at.ensures (λ n. head_word a.j (drop a.i n.datoms))

pub returns-then-j-gt3 : goal.returns-then-j-gt3
unfolding node_of
returns-then-j-gt3 c =
    let a = c.args in
    word_none _ _ c.if-j-gt3.true ∙ of_good _ _ _ c.in-Ok.is c.look_at.ensures (λ n. head_word a.j (drop a.i n.datoms))

pub overflow_mul-i : goal.overflow_mul-i
overflow_mul-i c =
    let h = good_held _ _ _ c.in-Ok.is c.look_at.ensures in
    omega (arith, h.few, h.most)

pub overflow_add-i : goal.overflow_add-i
overflow_add-i c =
    let h = good_held _ _ _ c.in-Ok.is c.look_at.ensures in
    omega (arith, h.few, h.most)

pub word-requires : goal.word-requires
word-requires c =
    let h = good_held _ _ _ c.in-Ok.is c.look_at.ensures in
    omega (arith, h.few, h.fits)

pub returns : goal.returns
unfolding node_of
returns c =
    let a = c.args in
    c.word.ensures
    ∙ (word_here a.bytes.now _ _ _ (omega arith) (omega arith)
    ∙ of_good _ _ _ c.in-Ok.is c.look_at.ensures (λ n. head_word a.j (drop a.i n.datoms)))
