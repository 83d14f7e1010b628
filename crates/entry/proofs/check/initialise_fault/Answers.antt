-- `initialise_fault` meets its contract: 3, then 4. Assumes nothing.
use Rattle.std.proofs.lemmas.Result.{err_from_is_err_and}
use Rattle.entry.specs.Checks.{twin_form, twin_rest}
use Rattle.entry.proofs.check.initialise_fault.Goals as goal

pub returns-in_err-word_fault : goal.returns-in_err-word_fault
returns-in_err-word_fault c =
    let p = err_from_is_err_and c.from_residual.result c.from_residual.ensures.1 in
    rw (p.1, p.2) (twin_form _ _ _ (c.in_err-word_fault.ensures c.args.order.by))

pub returns : goal.returns
returns c = twin_rest _ _ (c.in_ok-word_fault.ensures c.args.order.by) _ c.twin_fault.ensures
