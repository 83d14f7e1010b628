-- `held_tree` meets its contract: an empty batch, root none, then the page. Assumes nothing.
use mathlib.Core.Path.{sym, ◌∙◌}
use Rattle.memory_store.specs.Pages.{order_of}
use Rattle.held.specs.Ways.{tree_empty, tree_none, tree_at}
use Rattle.held.proofs.held_tree.Goals as goal

pub returns-then-n-eq0 : goal.returns-then-n-eq0
returns-then-n-eq0 c =
    let a = c.args in
    let p = a.pages.now in
    tree_empty (order_of p) p.extent p.store.now a.root a.n a.b.now c.if-n-eq0.true

pub returns-then-is_none : goal.returns-then-is_none
returns-then-is_none c =
    let a = c.args in
    let p = a.pages.now in
    tree_none (order_of p) p.extent p.store.now a.root a.n a.b.now c.if-n-eq0.false (sym c.is_none.ensures ∙ c.if-is_none.true)

pub returns : goal.returns
returns c =
    let a = c.args in
    let p = a.pages.now in
    let real = sym c.is_none.ensures ∙ c.if-is_none.false in
    c.held_at.ensures ∙ tree_at (order_of p) p.extent p.store.now a.root a.n a.b.now c.if-n-eq0.false real
