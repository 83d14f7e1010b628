-- `insert_fault` meets its contract: the form is tested before the order. Assumes nothing.
use Rattle.std.proofs.lemmas.Result.{err_from_is_err_and}
use Rattle.entry.specs.Checks.{fault_form, fault_order}
use Rattle.entry.proofs.check.insert_fault.Goals as goal

pub returns-in_err-word_fault : goal.returns-in_err-word_fault
returns-in_err-word_fault c =
    let p = err_from_is_err_and c.from_residual.result c.from_residual.ensures.1 in
    rw (p.1, p.2) (fault_form _ _ _ (c.in_err-word_fault.ensures c.args.order.by))

pub returns : goal.returns
returns c = fault_order _ _ (c.in_ok-word_fault.ensures c.args.order.by) _ c.order_fault.ensures
