use Rattle.std.proofs.Common.{◌≡◌, drop}
use Rattle.store.specs.Words.{cells}
use Rattle.store.specs.Page.{page_of}
use Rattle.rules.specs.Page.{all, older}
use Rattle.memory_store.proofs.reader.all_older.Given as goal

abbrev pub invariant-loop-i : goal.invariant-loop-i
invariant-loop-i l = all (older l.id) (drop l.i (cells page_of 8 l.n (drop l.at l.s))) ≡ all (older l.id) (cells page_of 8 l.n (drop l.at l.s))
