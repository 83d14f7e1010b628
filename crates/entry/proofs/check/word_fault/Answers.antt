-- `word_fault` meets its contract: the whole batch's words are tested before any constant. Assumes nothing.
use Rattle.std.proofs.lemmas.Result.{err_from_is_err_and}
use Rattle.entry.specs.Checks.{words_form, words_constant}
use Rattle.entry.proofs.check.word_fault.Goals as goal

pub returns-in_err-form_fault : goal.returns-in_err-form_fault
returns-in_err-form_fault c i =
    let p = err_from_is_err_and c.from_residual.result c.from_residual.ensures.1 in
    rw (p.1, p.2) (words_form i _ _ _ c.in_err-form_fault.ensures)

pub returns : goal.returns
returns c i = words_constant i _ _ c.in_ok-form_fault.ensures _ c.constant_fault.ensures
