-- `next_in` meets its contract. Assumes nothing.
use Rattle.store.specs.declared.PageId.{PageId}
use Rattle.std.specs.Prelude.{◌≡◌, Option}
use Rattle.std.proofs.Common.{rules}
use native.Mathlib.Omega.{arith}
use mathlib.Core.Path.{◌∙◌, ap}
use lib.ListN.{drop}
use Rattle.rules.specs.Page.{node_of}
use Rattle.rules.specs.Node.{next_midpoint}
use Rattle.rules.specs.Lookup.{child_of}
use Rattle.probe.specs.Laws.{of_unread, of_good, good_held}
use Rattle.probe.proofs.next_in.Goals as goal

pub returns-in_default : goal.returns-in_default
returns-in_default c = of_unread _ _ _ _ c.in_default.is c.look_at.ensures

pub next_midpoint-requires : goal.next_midpoint-requires
next_midpoint-requires c =
    let h = good_held _ _ _ c.in-Ok.is c.look_at.ensures in
    let e = c.capacity_of-c.ensures in
    (omega arith, omega arith)

pub returns : goal.returns
unfolding node_of
returns c =
    let a = c.args in
    let e = rw c.capacity_of-c.ensures at c.next_midpoint.ensures in
    let told : c.map_or.result ≡ (child_of c.next_midpoint.result).0 = search rules in
    told
    ∙ (ap (λ (m : Option PageId). (child_of m).0) e
    ∙ of_good _ _ _ c.in-Ok.is c.look_at.ensures (λ n. (child_of (next_midpoint (drop a.from n.children))).0))
