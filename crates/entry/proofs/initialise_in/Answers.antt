-- `initialise_in` meets its contract on every input: 1 and 2, then the rest. Assumes nothing.
use Rattle.std.proofs.Common.{length, sym}
use Rattle.std.proofs.lemmas.Result.{err_from_is_err_and}
use Rattle.entry.specs.Reply.{replies_refused}
use Rattle.entry.specs.Checks.{initialise_refused, initialise_counted_law, passed}
use Rattle.entry.proofs.initialise_in.Goals as goal

pub returns-in_err-n : goal.returns-in_err-n
returns-in_err-n c =
    let a = c.args in
    let p = err_from_is_err_and c.from_residual.result c.from_residual.ensures.1 in
    rw (p.1, p.2) (replies_refused _ _ _ _ (initialise_refused a.extent a.store.now (length a.s.now) a.b.now _ _ (sym c.in_err-n.ensures)))

pub initialise_counted-requires : goal.initialise_counted-requires
initialise_counted-requires c =
    let a = c.args in
    rw c.capacity_of-c.ensures (passed a.extent a.store.now (length a.s.now) a.b.now _ (sym c.in_ok-n.ensures))

pub returns : goal.returns
returns c =
    let a = c.args in
    rw (initialise_counted_law a.extent a.store.now (length a.s.now) a.b.now _ (sym c.in_ok-n.ensures) _) c.initialise_counted.ensures
