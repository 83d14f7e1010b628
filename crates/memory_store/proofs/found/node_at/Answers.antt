-- `node_at` meets its contract: a page below the count lies in the store, and the reader tells the rest. Assumes nothing.
use Rattle.std.proofs.Common.{arith}
use Rattle.std.proofs.lemmas.Result.{err_from_is_err_and}
use Rattle.index.specs.Order.{ord}
use Rattle.memory_store.specs.FetchLaws.{in_order, page_long, found_missing, found_broken, found_fine}
use Rattle.memory_store.proofs.found.node_at.Goals as goal

pub returns-then-extent-page : goal.returns-then-extent-page
returns-then-extent-page c = found_missing _ _ _ _ c.if-extent-page.true

pub read_page-requires : goal.read_page-requires
read_page-requires c =
    let a = c.args in
    let o = in_order a.extent a.store.now c.requires.0 in
    rw (c.part_of-part.ensures, page_long a.extent a.store.now a.page o (omega arith), c.requires.1) o.known.fits

pub returns-in_err-read_page : goal.returns-in_err-read_page
returns-in_err-read_page c =
    let a = c.args in
    let r = err_from_is_err_and c.from_residual.result c.from_residual.ensures.1 in
    rw (r.1, r.2) (found_broken (ord a.order) a.extent a.store.now a.page (omega arith) _ (rw (c.part_of-part.ensures, c.requires.1) at c.in_err-read_page.ensures))

pub returns : goal.returns
returns c =
    let a = c.args in
    found_fine (ord a.order) a.extent a.store.now a.page (omega arith) _ (rw (c.part_of-part.ensures, c.requires.1) at c.in_ok-read_page.ensures)
