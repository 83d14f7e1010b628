-- `refuse_named` meets its contract: the words of document 01's table, with the fault's number. Assumes nothing.
use Rattle.florinwick.proofs.words.refuse_named.Goals as goal

pub returns : goal.returns
returns c = rw c.fault.ensures at c.put_refusal.ensures
