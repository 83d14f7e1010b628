-- `check_in` meets its contract: the checks in their order, then the root. Assumes nothing.
use borrow.Author.Rules.{rules}
use Rattle.std.specs.Prelude.{Ok, Err}
use Rattle.answer.specs.declared.Fault.{Fault}
use Rattle.answer.specs.declared.Refusal.TheVariants.{BadStore}
use Rattle.answer.specs.Answers.{unchecked, unsound_at}
use Rattle.rules.specs.Check.{check_tree}
use Rattle.invariants.specs.Verdict.{verdict_of}
use mathlib.Core.Path.{◌≡◌, ◌∙◌, ap, sym}
use Rattle.index.specs.Order.{ord}
use Rattle.memory_store.specs.Pages.{order_of}
use Rattle.memory_store.specs.Readable.{told_fine, told_faulty}
use Rattle.invariants.specs.Root.{check_bad, check_past, check_none, check_faulty, check_read}
use Rattle.invariants.proofs.check_in.Goals as goal
use Rattle.invariants.proofs.check_in.Goals.{After-check_at}

pub returns-in_err-pages : goal.returns-in_err-pages
returns-in_err-pages c =
    let a = c.args in
    let k : c.from_residual.result ≡ unchecked BadStore = search rules in
    k ∙ check_bad (ord a.order) a.extent a.store.now a.root c.in_err-pages.ensures.0

pub returns-then-is_bad_root : goal.returns-then-is_bad_root
returns-then-is_bad_root c =
    let a = c.args in
    check_past (ord a.order) a.extent a.store.now a.root c.in_ok-pages.ensures.0 (sym c.is_bad_root.ensures ∙ c.if-is_bad_root.true)

pub returns-then-is_none : goal.returns-then-is_none
returns-then-is_none c =
    let a = c.args in
    let known = sym c.is_bad_root.ensures ∙ c.if-is_bad_root.false in
    check_none (ord a.order) a.extent a.store.now a.root c.in_ok-pages.ensures.0 known (sym c.is_none.ensures ∙ c.if-is_none.true)

pub check_at-requires : goal.check_at-requires
check_at-requires c =
    let p = c.in_ok-pages.pages in
    let h = c.in_ok-level.field-0 in
    let at : c.header-read.result ≡ Ok h = search rules in
    told_fine (order_of p) p.extent p.store.now c.args.root h (rw at at c.header-read.ensures)

pub returns-in_err-level : goal.returns-in_err-level
returns-in_err-level c =
    let a = c.args in
    let (ok, of) = c.in_ok-pages.ensures in
    let known = sym c.is_bad_root.ensures ∙ c.if-is_bad_root.false in
    let real = sym c.is_none.ensures ∙ c.if-is_none.false in
    let w : (f : Fault) × ((c.header-read.result ≡ Err f) × (c.from_residual-in_err-level.result ≡ unsound_at a.root f)) = search rules in
    w.1.1
    ∙ check_faulty (ord a.order) a.extent a.store.now a.root ok known real w.0
    (told_faulty (ord a.order) a.extent a.store.now a.root w.0 (rw (w.1.0, of.bytes, of.extent, of.order) at c.header-read.ensures))

-- what the walk from the root gives is what the whole gives
walked : (c : After-check_at) → verdict_of c.check_at.result ≡ check_tree (ord c.args.order) c.args.extent c.args.store.now c.args.root
walked c =
    let a = c.args in
    let (ok, of) = c.in_ok-pages.ensures in
    let known = sym c.is_bad_root.ensures ∙ c.if-is_bad_root.false in
    let real = sym c.is_none.ensures ∙ c.if-is_none.false in
    let h = c.in_ok-level.field-0 in
    let at : c.header-read.result ≡ Ok h = search rules in
    (rw (of.bytes, of.extent, of.order) at c.check_at.ensures)
    ∙ check_read (ord a.order) a.extent a.store.now a.root ok known real h.level h.count
    (told_fine (ord a.order) a.extent a.store.now a.root h (rw (at, of.bytes, of.extent, of.order) at c.header-read.ensures))

pub returns-in_err-check_at : goal.returns-in_err-check_at
returns-in_err-check_at c =
    let d = c.in_err-check_at.field-0.0 in
    let k : c.from_residual-in_err-check_at.result ≡ unsound_at d.page d.fault = search rules in
    k ∙ sym (ap verdict_of c.in_err-check_at.was) ∙ walked (goal.at.returns-in_err-check_at c).After-check_at

pub returns : goal.returns
returns c = sym (ap verdict_of c.in_ok-check_at.was) ∙ walked (goal.at.returns c).After-check_at
