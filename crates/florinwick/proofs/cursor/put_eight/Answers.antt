-- `put_eight` meets its contract: after i turns the first i words are stored. Assumes nothing.
use Rattle.std.proofs.Common.{refl, sym, ◌∙◌, arith, rules}
use Rattle.store.specs.Words.{bytes_of, spread}
use Rattle.store.specs.Cells.{patch_none}
use Rattle.store.specs.Laws.{bytes_length}
use Rattle.florinwick.specs.Cursor.{put_next}
use Rattle.florinwick.proofs.cursor.put_eight.Goals as goal

pub loop-i-init : goal.loop-i-init
unfolding spread
loop-i-init g c = (refl, (search rules, sym (patch_none _ _)))

pub loop-i-preserved : goal.loop-i-preserved
loop-i-preserved g c =
    let a = c.args in
    let I = c.loop-i.invariant in
    let next = put_next (λ x. bytes_of 8 (g.W.Word.word x)) (λ x. bytes_length 8 (g.W.Word.word x)) a.s.now a.at a.words c.loop-i.i c.index-words-i.result (omega (arith, c.loop-i-test.true, I.1.0)) (omega (arith, c.requires, I.1.0)) in
    (c.put_word.auto.s ∙ I.0, (I.1.0, c.put_word.ensures ∙ rw (c.word.ensures, I.1.1) next))
