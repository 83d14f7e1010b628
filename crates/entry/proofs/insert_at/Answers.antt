-- `insert_at` meets its contract: an unreadable root and what the lookup finds are refused, else the batch is written. Assumes nothing.
use Rattle.std.proofs.Common.{rules, ◌≡◌, [], arith, refl, Ok, Err}
use Rattle.std.proofs.lemmas.Result.{err_from_is_err_and}
use Rattle.datom.specs.Datom.{datoms_of}
use Rattle.index.specs.Order.{ord}
use Rattle.answer.specs.declared.Fault.{Fault}
use Rattle.answer.specs.declared.Refusal.TheVariants.{Damaged}
use Rattle.memory_store.specs.Readable.{told_faulty, told_fine}
use Rattle.entry.specs.Reply.{replies_refused, replies}
use Rattle.entry.specs.Under.{at_bad, at_found, at_clear}
use Rattle.entry.proofs.insert_at.Goals as goal

pub new-pages-requires : goal.new-pages-requires
new-pages-requires c = c.requires.0.roomy.good

pub returns-in_err-level : goal.returns-in_err-level
returns-in_err-level c =
    let a = c.args in
    let of = c.new-pages.ensures in
    let w : (f : Fault) × ((c.header-read.result ≡ Err f) × (c.from_residual.result ≡ Err (Damaged a.root f))) = search rules in
    let e = told_faulty (ord a.order) a.extent a.store.now a.root w.0 (rw (w.1.0, of.bytes, of.extent, of.order) at c.header-read.ensures) in
    rw w.1.1 (replies_refused _ _ _ _ (at_bad (ord a.order) a.extent a.store.now a.root (datoms_of a.n a.b.now) _ e))

pub lookup_all-requires : goal.lookup_all-requires
lookup_all-requires c =
    let a = c.args in
    let P = c.requires.0 in
    let of = c.new-pages.ensures in
    let at : c.header-read.result ≡ Ok c.in_ok-level.field-0 = search rules in
    let e = told_fine (ord a.order) a.extent a.store.now a.root _ (rw (at, of.bytes, of.extent, of.order) at c.header-read.ensures) in
    rw (of.bytes, of.extent, of.order) (e, omega (arith, P.batch), c.requires.1)

pub returns-in_err-lookup_all : goal.returns-in_err-lookup_all
returns-in_err-lookup_all c =
    let a = c.args in
    let of = c.new-pages.ensures in
    let at : c.header-read.result ≡ Ok c.in_ok-level.field-0 = search rules in
    let e = told_fine (ord a.order) a.extent a.store.now a.root _ (rw (at, of.bytes, of.extent, of.order) at c.header-read.ensures) in
    let p = err_from_is_err_and c.from_residual-in_err-lookup_all.result c.from_residual-in_err-lookup_all.ensures.1 in
    rw (p.1, p.2)
    (replies_refused _ _ _ _ (at_found (ord a.order) a.extent a.store.now a.root (datoms_of a.n a.b.now) _ _ e _ (rw (of.bytes, of.extent, of.order) at c.in_err-lookup_all.ensures)))

pub under-requires : goal.under-requires
under-requires c =
    let a = c.args in
    let of = c.new-pages.ensures in
    let at : c.header-read.result ≡ Ok c.in_ok-level.field-0 = search rules in
    let e = told_fine (ord a.order) a.extent a.store.now a.root _ (rw (at, of.bytes, of.extent, of.order) at c.header-read.ensures) in
    (c.requires.0, e)

pub returns : goal.returns
returns c =
    let a = c.args in
    let of = c.new-pages.ensures in
    let at : c.header-read.result ≡ Ok c.in_ok-level.field-0 = search rules in
    let e = told_fine (ord a.order) a.extent a.store.now a.root _ (rw (at, of.bytes, of.extent, of.order) at c.header-read.ensures) in
    rw (c.answer_of.ensures, at_clear (ord a.order) a.extent a.store.now a.root (datoms_of a.n a.b.now) _ _ e (rw (of.bytes, of.extent, of.order) at c.in_ok-lookup_all.ensures))
    (replies _ _ _ _ _ (c.under.ensures [] refl))
