use Rattle.std.proofs.Common.{◌≡◌, length, take}
use Rattle.store.specs.Words.{bytes_of, spread, patch}
use Rattle.florinwick.proofs.cursor.put_eight.Given as goal

abbrev pub invariant-loop-i : goal.invariant-loop-i
invariant-loop-i g l =
    (length l.s ≡ length l.initial.s) × ((length l.words ≡ 8) × (l.s ≡ patch l.initial.s l.at (spread (λ x. bytes_of 8 (g.W.Word.word x)) (take l.i l.words))))
