-- `load` meets its contract: what the page was opened as, and what the merge leaves, in the rules' words. Assumes nothing.
use native.Mathlib.Omega.{arith}
use mathlib.Core.Path.{refl, sym, ◌∙◌}
use Rattle.std.proofs.lemmas.Result.{err_from_is_err_and}
use Rattle.memory_store.specs.Pages.{order_of}
use Rattle.node.specs.Merge.{is_whole, is_met_law}
use Rattle.htree.specs.Load.{load_faulty, load_opens, load_met, load_whole}
use borrow.Author.Rules.{rules}
use Rattle.htree.proofs.insert.load.Goals as goal

pub part-part-requires : goal.part-part-requires
part-part-requires c =
    let a = c.args in
    let p = a.pages.now in
    let e = sym c.in_ok-k.was ∙ c.requires.2 in
    let O = load_opens (order_of p) p.extent p.store.now a.level a.page a.s.now a.m a.n _ p.in_order e in
    O.used

pub merge-requires : goal.merge-requires
merge-requires c =
    let a = c.args in
    let p = a.pages.now in
    let e = sym c.in_ok-k.was ∙ c.requires.2 in
    let O = load_opens (order_of p) p.extent p.store.now a.level a.page a.s.now a.m a.n _ p.in_order e in (
      rw c.part-part.ensures (omega (arith, O.wide, p.sized)),
      (omega (arith, O.few, p.sized), (search rules, (omega (arith, O.few, p.sized), search rules))),
    )

pub overflow_add-result : goal.overflow_add-result
overflow_add-result c =
    let a = c.args in
    let p = a.pages.now in
    let e = sym c.in_ok-k.was ∙ c.requires.2 in
    let O = load_opens (order_of p) p.extent p.store.now a.level a.page a.s.now a.m a.n _ p.in_order e in
    omega (arith, O.few, p.sized)

pub returns-in_err-k : goal.returns-in_err-k
returns-in_err-k c =
    let a = c.args in
    let p = a.pages.now in
    let q = err_from_is_err_and c.from_residual.result c.from_residual.ensures.1 in
    rw (q.1, q.2) (load_faulty (order_of p) p.extent p.store.now a.level a.page a.s.now a.m a.n _ (sym c.in_err-k.was ∙ c.requires.2))

pub returns : goal.returns
returns c =
    let a = c.args in
    let p = a.pages.now in
    let e = sym c.in_ok-k.was ∙ c.requires.2 in
    let M = rw c.part-part.ensures at c.in_ok-merge.ensures in
    load_whole (order_of p) p.extent p.store.now a.level a.page a.s.now a.m a.n _ p.in_order e _ M.same
    (is_whole _ (sym M.answer)) (rw p.sized at (M.node refl a.level))

pub returns-in_err-merge : goal.returns-in_err-merge
returns-in_err-merge c =
    let a = c.args in
    let p = a.pages.now in
    let e = sym c.in_ok-k.was ∙ c.requires.2 in
    let M = rw c.part-part.ensures at c.in_err-merge.ensures in
    let met = is_met_law _ _ (sym M.answer) in
    let q = err_from_is_err_and c.from_residual-in_err-merge.result c.from_residual-in_err-merge.ensures.1 in
    rw (q.1, q.2, ← met.1) (load_met (order_of p) p.extent p.store.now a.level a.page a.s.now a.m a.n _ p.in_order e _ M.same met.0)
