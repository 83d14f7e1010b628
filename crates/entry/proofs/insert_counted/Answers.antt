-- `insert_counted` meets its contract: what the checks find is refused, and a root that is no page; else the batch is written. Assumes nothing.
use Rattle.std.proofs.Common.{[], refl, sym, ◌∙◌}
use Rattle.std.proofs.lemmas.Result.{err_from_is_err_and}
use Rattle.entry.specs.Reply.{replies_refused, replies}
use Rattle.entry.specs.Checks.{fault_rises, counted_found, counted_fresh, counted_missing, counted_at}
use Rattle.entry.proofs.insert_counted.Goals as goal

pub returns-in_err-insert_fault : goal.returns-in_err-insert_fault
returns-in_err-insert_fault c =
    let a = c.args in
    let p = err_from_is_err_and c.from_residual.result c.from_residual.ensures.1 in
    rw (p.1, p.2) (replies_refused _ _ _ _ (counted_found _ _ a.extent a.store.now a.root _ c.in_err-insert_fault.ensures))

pub returns-then-is_bad_root : goal.returns-then-is_bad_root
returns-then-is_bad_root c =
    let a = c.args in
    replies_refused _ _ _ _ (counted_missing _ _ a.extent a.store.now a.root c.in_ok-insert_fault.ensures (sym c.is_bad_root.ensures ∙ c.if-is_bad_root.true))

pub returns-then-is_none : goal.returns-then-is_none
returns-then-is_none c =
    let a = c.args in
    let known = sym c.is_bad_root.ensures ∙ c.if-is_bad_root.false in
    let none = sym c.is_none.ensures ∙ c.if-is_none.true in
    rw (c.answer_of.ensures, counted_fresh _ _ a.extent a.store.now a.root c.in_ok-insert_fault.ensures known none) (replies _ _ _ _ _ (c.fresh.ensures _ [] refl))

pub insert_at-requires : goal.insert_at-requires
insert_at-requires c = (c.requires, fault_rises _ _ c.in_ok-insert_fault.ensures)

pub returns : goal.returns
returns c =
    let a = c.args in
    let known = sym c.is_bad_root.ensures ∙ c.if-is_bad_root.false in
    let some = sym c.is_none.ensures ∙ c.if-is_none.false in
    rw (counted_at _ _ a.extent a.store.now a.root c.in_ok-insert_fault.ensures known some) c.insert_at.ensures
