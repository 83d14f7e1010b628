-- `tell_named` meets its contract: the words of document 01's table, with the fault's number. Assumes nothing.
use Rattle.florinwick.proofs.words.tell_named.Goals as goal

pub returns-in-Ok : goal.returns-in-Ok
returns-in-Ok c = rw c.in-Ok.is c.put_done.ensures

pub returns-in-Err : goal.returns-in-Err
returns-in-Err c = rw c.in-Err.is c.refuse_named.ensures
