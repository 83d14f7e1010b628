-- `only_used` meets its contract: clearing from a level on gives what clearing from the height gives. Assumes nothing.
use borrow.Author.Rules.{rules}
use lib.ListN.{length, length-set}
use mathlib.Core.Path.{◌≡◌, refl, ◌∙◌}
use Rattle.store.specs.Page.{page}
use Rattle.listing.specs.WayLaws.{Full, clear_on, used_is}
use Rattle.listing.proofs.way.only_used.Goals as goal

pub loop-level-init : goal.loop-level-init
loop-level-init c =
    let is : length c.args.way.indices ≡ 8 = search rules in
    let ps : length c.args.way.pages ≡ 8 = search rules in
    let full : Full c.args.way = (is, ps) in
    (full, (full, (refl, refl)))

pub loop-level-preserved : goal.loop-level-preserved
loop-level-preserved c =
    let i = c.loop-level.invariant in
    let full = i.0 in (
      (simp length-set full.0, simp length-set full.1),
      (
        i.1.0,
        (
          clear_on 0 c.loop-level.level c.loop-level.kept.indices full.0 c.loop-level-test.true ∙ i.1.1.0,
          clear_on (page 0) c.loop-level.level c.loop-level.kept.pages full.1 c.loop-level-test.true ∙ i.1.1.1,
        ),
      ),
    )

pub returns : goal.returns
returns c =
    let i = c.loop-level.invariant in
    used_is c.args.way c.loop-level.kept _ c.loop-level.level c.requires c.loop-level-test.false i.1.0 i.0 i.1.1.0 i.1.1.1
