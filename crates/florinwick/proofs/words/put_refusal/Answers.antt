-- `put_refusal` meets its contract: the words of document 01's table, with a third word that is given. Assumes nothing.
use Rattle.florinwick.proofs.words.put_refusal.Goals as goal

pub returns : goal.returns
returns c =
    (c.number-number.ensures, rw (c.number-number.ensures, c.detail.ensures) at c.put_words.ensures)
