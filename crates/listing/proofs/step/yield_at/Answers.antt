-- `yield_at` meets its contract: a page that is lost while the cursor advances refuses the step. Assumes nothing.
use borrow.Author.Rules.{rules}
use mathlib.Core.Path.{◌≡◌, ap, ◌∙◌}
use Rattle.std.specs.Prelude.{Err}
use Rattle.answer.specs.Damage.{damaged}
use Rattle.listing.specs.Advance.{stepped_as}
use Rattle.listing.specs.AdvanceLaws.{yield_lost, yield_bottom}
use Rattle.listing.proofs.step.yield_at.Goals as goal

pub returns-in_err-next : goal.returns-in_err-next
returns-in_err-next c =
    let a = c.args in
    let d = c.in_err-next.field-0.0 in
    let k : c.from_residual.result ≡ Err (damaged d) = search rules in
    ap (stepped_as a.cursor) k ∙ yield_lost a.cursor a.datom c.advance.result _ c.advance.ensures d.page d.fault c.in_err-next.was

pub returns : goal.returns
returns c =
    let a = c.args in
    rw c.cursor_of-cursor.ensures (yield_bottom a.cursor a.datom c.advance.result _ c.advance.ensures _ c.in_ok-next.was)
