-- `florinwick_scratch_need` meets its contract. Assumes nothing.
use mathlib.Core.Path.{sym, ◌∙◌, ap}
use native.Mathlib.Omega.{arith}
use Rattle.store.specs.Size.{scratch_need}
use Rattle.store.specs.Laws.{known_size}
use Rattle.florinwick.specs.Words.{need_none, need_some}
use Rattle.florinwick.proofs.florinwick_scratch_need.Goals as goal

pub returns-then-c-eq0 : goal.returns-then-c-eq0
returns-then-c-eq0 c = need_none _ (sym c.capacity_of-c.ensures ∙ c.if-c-eq0.true)

pub need_for-requires : goal.need_for-requires
need_for-requires c =
    let e = c.capacity_of-c.ensures in
    omega (arith, e, (known_size _ (λ h. c.if-c-eq0.false (e ∙ h))).few)

pub returns : goal.returns
returns c =
    let e = c.capacity_of-c.ensures in
    c.need_for.ensures ∙ ap scratch_need e ∙ need_some _ (λ h. c.if-c-eq0.false (e ∙ h))
