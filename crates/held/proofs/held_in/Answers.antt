-- `held_in` meets its contract on every input: 1 and 2, then the rest. Assumes nothing.
use Rattle.std.proofs.Common.{arith, sym, ◌∙◌}
use Rattle.std.proofs.lemmas.Result.{err_from_is_err_and}
use Rattle.index.specs.Order.{ord}
use Rattle.batch.specs.Finding.{given_count}
use Rattle.held.specs.Ways.{held_of_law, bytes_bad, bytes_refused, bytes_counted}
use Rattle.held.proofs.held_in.Goals as goal

pub returns-in_err-pages : goal.returns-in_err-pages
returns-in_err-pages c =
    let a = c.args in
    let p = err_from_is_err_and c.from_residual.result c.from_residual.ensures.1 in
    let (bad, why) = c.in_err-pages.ensures in
    rw (p.1, p.2, why) (bytes_bad (ord a.order) a.extent a.store.now a.root a.b.now bad)

pub returns-in_err-n : goal.returns-in_err-n
returns-in_err-n c =
    let a = c.args in
    let (good, of) = c.in_ok-pages.ensures in
    let p = err_from_is_err_and c.from_residual-in_err-n.result c.from_residual-in_err-n.ensures.1 in
    rw (p.1, p.2) (bytes_refused (ord a.order) a.extent a.store.now a.root a.b.now good _ (sym c.in_err-n.ensures))

pub held_counted-requires : goal.held_counted-requires
held_counted-requires c =
    let G = given_count c.args.b.now _ (sym c.in_ok-n.ensures) in
    omega (arith, G.whole)

pub returns : goal.returns
returns c =
    let a = c.args in
    let (good, of) = c.in_ok-pages.ensures in
    held_of_law _ _ (rw (of.bytes, of.extent, of.order) at c.held_counted.ensures)
    ∙ bytes_counted (ord a.order) a.extent a.store.now a.root a.b.now good _ (sym c.in_ok-n.ensures)
