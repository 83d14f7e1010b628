-- `refuse` meets its contract: the words of document 01's table. Assumes nothing.
use Rattle.florinwick.proofs.words.refuse.Goals as goal

pub returns : goal.returns
returns c = c.put_refusal.ensures
