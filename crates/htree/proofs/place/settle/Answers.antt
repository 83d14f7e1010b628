-- `settle` meets its contract: a split, or one page whose id goes up. Assumes nothing.
use native.Mathlib.Omega.{arith}
use Rattle.std.proofs.lemmas.Result.{err_from_is_err_and}
use Rattle.rules.proofs.SplitLaws.{whole_part}
use Rattle.htree.specs.Told.{tell_went, tell_stopped}
use Rattle.htree.specs.Settle.{ready_next, settle_split, settle_put, settle_refused}
use Rattle.htree.proofs.place.settle.Goals as goal

pub returns-then-c-n : goal.returns-then-c-n
returns-then-c-n c =
    let a = c.args in
    let R = c.requires.0 in
    λ t o e. rw (settle_split t a.extent a.store.now a.m a.level a.n a.s.now (omega (arith, R.cap)) o) (c.split.ensures t o e)

pub overflow_add-result : goal.overflow_add-result
overflow_add-result c =
    let R = c.requires.0 in omega (arith, ready_next R)

pub returns : goal.returns
returns c =
    let a = c.args in
    let R = c.requires.0 in
    λ t o e.
    let T = rw (whole_part a.m a.level a.n a.s.now) at (c.in_ok-id.ensures t o e) in
    rw (c.put_child.ensures, ← e)
    (tell_went (settle_put t a.extent a.store.now a.m a.level a.n a.s.now (omega (arith, R.cap)) (omega arith) (omega arith) o _ _ T))

pub returns-in_err-id : goal.returns-in_err-id
returns-in_err-id c =
    let a = c.args in
    let R = c.requires.0 in
    let q = err_from_is_err_and c.from_residual.result c.from_residual.ensures.1 in
    rw (q.1, q.2)
    (λ t o e.
    let T = rw (whole_part a.m a.level a.n a.s.now) at (c.in_err-id.ensures t o e) in
    tell_stopped (settle_refused t a.extent a.store.now a.m a.level a.n a.s.now (omega (arith, R.cap)) (omega arith) (omega arith) o _ _ T (rw e R.room)))
