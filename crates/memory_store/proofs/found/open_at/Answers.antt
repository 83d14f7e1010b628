-- `open_at` meets its contract: what the header tells, at the level asked for. Assumes nothing.
use Rattle.std.proofs.lemmas.Result.{err_from_is_err_and}
use Rattle.index.specs.Order.{ord}
use Rattle.memory_store.specs.Opened.{open_faulty, open_other, open_node}
use Rattle.memory_store.proofs.found.open_at.Goals as goal

pub returns-in_err-header : goal.returns-in_err-header
returns-in_err-header c =
    let a = c.args in
    let r = err_from_is_err_and c.from_residual.result c.from_residual.ensures.1 in
    rw (r.1, r.2) (open_faulty (ord a.order) a.extent a.store.now a.page _ a.level c.in_err-header.ensures)

pub returns-then-header-level : goal.returns-then-header-level
returns-then-header-level c =
    let a = c.args in
    open_other (ord a.order) a.extent a.store.now a.page _ c.in_ok-header.ensures a.level c.if-header-level.true

pub returns : goal.returns
returns c =
    let a = c.args in
    open_node (ord a.order) a.extent a.store.now a.page _ c.in_ok-header.ensures a.level c.if-header-level.false
