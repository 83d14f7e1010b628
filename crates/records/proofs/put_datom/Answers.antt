-- `put_datom` meets its contract: four words behind one another. Assumes nothing.
use Rattle.records.specs.Laid.{datom_words}
use Rattle.records.proofs.put_datom.Goals as goal

pub returns-clause-laid : goal.returns-clause-laid
returns-clause-laid c =
    rw (c.put_word-4.ensures, c.put_word-3.ensures, c.put_word-2.ensures, c.put_word.ensures)
    (datom_words _ _ _ c.requires)
