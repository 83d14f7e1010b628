-- `record_in` meets its contract: four words, or a record of no pages. Assumes nothing.
use Rattle.florinwick.specs.Record.{record_read, record_none}
use Rattle.florinwick.proofs.recorded.record_in.Goals as goal

pub returns-then-b-ne-BYTES : goal.returns-then-b-ne-BYTES
returns-then-b-ne-BYTES c = record_none _ c.if-b-ne-BYTES.true

pub returns : goal.returns
returns c =
    rw (c.word-4.ensures, c.word-3.ensures, c.word-2.ensures, c.word.ensures)
    (record_read _ c.if-b-ne-BYTES.false)
