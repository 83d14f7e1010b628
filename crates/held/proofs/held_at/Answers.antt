-- `held_at` meets its contract: an unreadable root is refused, else the lookups tell. Assumes nothing.
use Rattle.std.proofs.Common.{rules, ◌≡◌, ap, ◌∙◌, Ok, Err}
use Rattle.datom.specs.Datom.{datoms_of}
use Rattle.memory_store.specs.Pages.{order_of}
use Rattle.answer.specs.declared.Fault.{Fault}
use Rattle.answer.specs.declared.Refusal.TheVariants.{Damaged}
use Rattle.memory_store.specs.Readable.{told_faulty, told_fine}
use Rattle.batch.specs.Finding.{finding_of}
use Rattle.held.specs.Ways.{at_bad, at_read}
use Rattle.held.proofs.held_at.Goals as goal

pub returns-in_err-level : goal.returns-in_err-level
returns-in_err-level c =
    let a = c.args in
    let p = a.pages.now in
    let w : (f : Fault) × ((c.header-read.result ≡ Err f) × (c.from_residual.result ≡ Err (Damaged a.root f))) = search rules in
    let e = told_faulty (order_of p) p.extent p.store.now a.root w.0 (rw w.1.0 at c.header-read.ensures) in
    ap finding_of w.1.1 ∙ at_bad (order_of p) p.extent p.store.now a.root (datoms_of a.n a.b.now) _ e

pub held_all-requires : goal.held_all-requires
held_all-requires c =
    let a = c.args in
    let p = a.pages.now in
    let at : c.header-read.result ≡ Ok c.in_ok-level.field-0 = search rules in
    let e = told_fine (order_of p) p.extent p.store.now a.root _ (rw at at c.header-read.ensures) in
    (e, c.requires)

pub returns : goal.returns
returns c =
    let a = c.args in
    let p = a.pages.now in
    let at : c.header-read.result ≡ Ok c.in_ok-level.field-0 = search rules in
    let e = told_fine (order_of p) p.extent p.store.now a.root _ (rw at at c.header-read.ensures) in
    c.held_all.ensures ∙ at_read (order_of p) p.extent p.store.now a.root (datoms_of a.n a.b.now) _ _ e
