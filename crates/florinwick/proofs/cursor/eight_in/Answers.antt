-- `eight_in` meets its contract: eight words, one by one. Assumes nothing.
use Rattle.florinwick.specs.Cursor.{eight_words}
use Rattle.florinwick.proofs.cursor.eight_in.Goals as goal

pub returns : goal.returns
returns g c =
    rw (c.of_word.ensures, c.word.ensures, c.of_word-2.ensures, c.word-2.ensures, c.of_word-3.ensures, c.word-3.ensures, c.of_word-4.ensures, c.word-4.ensures)
    (rw (c.of_word-5.ensures, c.word-5.ensures, c.of_word-6.ensures, c.word-6.ensures, c.of_word-7.ensures, c.word-7.ensures, c.of_word-8.ensures, c.word-8.ensures)
    (eight_words g.W.Word.of_word _))
