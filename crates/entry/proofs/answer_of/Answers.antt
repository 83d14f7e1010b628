-- `answer_of` meets its contract. Assumes nothing.
use Rattle.std.proofs.lemmas.Result.{err_from_is_err_and}
use Rattle.entry.specs.Reply.{answer_of}
use Rattle.entry.proofs.answer_of.Goals as goal

pub returns : goal.returns
unfolding answer_of
returns c = rw c.in_ok-rooted.was

pub returns-in_err-rooted : goal.returns-in_err-rooted
unfolding answer_of
returns-in_err-rooted c =
    let q = err_from_is_err_and c.from_residual.result c.from_residual.ensures.1 in
    rw (q.1, q.2, c.in_err-rooted.was)
