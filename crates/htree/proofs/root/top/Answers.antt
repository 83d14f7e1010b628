-- `top` meets its contract: one child is the root, several are written as the root. Assumes nothing.
use native.Mathlib.Omega.{arith}
use Rattle.std.proofs.lemmas.Result.{err_from_is_err_and}
use Rattle.rules.proofs.SplitLaws.{whole_part}
use Rattle.htree.specs.Settle.{ready_next}
use Rattle.htree.specs.Root.{top_one, top_put, top_refused}
use Rattle.htree.proofs.root.top.Goals as goal

pub returns-then-n-eq0 : goal.returns-then-n-eq0
returns-then-n-eq0 c =
    let a = c.args in
    let R = c.requires.0 in
    λ t o e.
    rw (← e, c.child_at.ensures) (top_one t a.extent a.store.now a.level a.m a.n a.s.now o (omega arith) (rw e R.room))

pub overflow_add-result : goal.overflow_add-result
overflow_add-result c =
    let R = c.requires.0 in
    omega (arith, ready_next R)

pub returns : goal.returns
returns c =
    let a = c.args in
    λ t o e.
    let T = rw (whole_part a.m a.level a.n a.s.now) at (c.in_ok-root.ensures t o e) in
    rw (← e) (top_put t a.extent a.store.now a.level a.m a.n a.s.now o (omega arith) _ _ T)

pub returns-in_err-root : goal.returns-in_err-root
returns-in_err-root c =
    let a = c.args in
    let R = c.requires.0 in
    let q = err_from_is_err_and c.from_residual.result c.from_residual.ensures.1 in
    rw (q.1, q.2)
    (λ t o e.
    let T = rw (whole_part a.m a.level a.n a.s.now) at (c.in_err-root.ensures t o e) in
    top_refused t a.extent a.store.now a.level a.m a.n a.s.now o (omega arith) _ _ T (rw e R.room))
