-- `initialise_counted` meets its contract: what the checks find is refused, else the sorted batch is written. Assumes nothing.
use Rattle.std.proofs.Common.{[], refl}
use Rattle.std.proofs.lemmas.Result.{err_from_is_err_and}
use Rattle.entry.specs.Reply.{replies_refused, replies}
use Rattle.entry.specs.Checks.{sorted_found, sorted_fresh}
use Rattle.entry.proofs.initialise_counted.Goals as goal

pub returns-in_err-initialise_fault : goal.returns-in_err-initialise_fault
returns-in_err-initialise_fault c =
    let a = c.args in
    let p = err_from_is_err_and c.from_residual.result c.from_residual.ensures.1 in
    rw (p.1, p.2) (replies_refused _ _ _ _ (sorted_found _ _ a.extent a.store.now _ c.in_err-initialise_fault.ensures))

pub returns : goal.returns
returns c =
    let a = c.args in
    rw (c.answer_of.ensures, sorted_fresh _ _ a.extent a.store.now c.in_ok-initialise_fault.ensures) (replies _ _ _ _ _ (c.sorted.ensures [] refl))
