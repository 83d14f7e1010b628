-- `against` meets its contract. Assumes nothing.
use mathlib.Core.Path.{sym, ap, ◌∙◌}
use Rattle.std.specs.Prelude.{Ok}
use Rattle.index.specs.Order.{ord}
use Rattle.listing.specs.CandidateLaws.{one_first, one_less, one_equal, one_greater}
use Rattle.listing.proofs.candidate.against.Goals as goal

pub returns-in_default : goal.returns-in_default
returns-in_default c = let a = c.args in one_first (ord a.order) a.level a.page a.x (Ok a.best) (ap Ok c.in_default.is)

pub returns-in-Less : goal.returns-in-Less
returns-in-Less c =
    let a = c.args in
    let b = c.in-Some.smallest in
    one_less (ord a.order) a.level a.page a.x (Ok a.best) b.level b.datom (ap Ok c.in-Some.is) (sym c.cmp.ensures ∙ c.in-Less.is)

pub returns-in-Equal : goal.returns-in-Equal
returns-in-Equal c =
    let a = c.args in
    let b = c.in-Some.smallest in
    one_equal (ord a.order) a.level a.page a.x (Ok a.best) b.level b.datom (ap Ok c.in-Some.is) (sym c.cmp.ensures ∙ c.in-Equal.is)

pub returns-in-Greater : goal.returns-in-Greater
returns-in-Greater c =
    let a = c.args in
    let b = c.in-Some.smallest in
    one_greater (ord a.order) a.level a.page a.x (Ok a.best) b.level b.datom (ap Ok c.in-Some.is) (sym c.cmp.ensures ∙ c.in-Greater.is)
