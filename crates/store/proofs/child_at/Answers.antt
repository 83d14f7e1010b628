-- `child_at` meets its contract: a word read is a page id. Assumes nothing.
use Rattle.store.proofs.child_at.Goals as goal

pub returns : goal.returns
returns c = cc
