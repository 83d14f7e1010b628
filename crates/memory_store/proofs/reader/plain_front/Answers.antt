-- `plain_front` meets its contract: one loop for each order. Assumes nothing.
use Rattle.std.proofs.Common.{rules}
use Rattle.index.specs.declared.Index.TheVariants.{Eavt, Aevt, Avet}
use Rattle.index.specs.Form.{order_plain}
use Rattle.index.specs.Order.{order_in}
use Rattle.memory_store.specs.Fours.{four_eavt, four_aevt, four_avet}
use Rattle.memory_store.proofs.reader.plain_front.Goals as goal

pub returns-in-Eavt : goal.returns-in-Eavt
returns-in-Eavt c =
    let same = c.plain_fours.ensures.same in
    (c.plain_fours.ensures.few, λ h. rw c.in-Eavt.is (same (order_in Eavt h) (order_plain Eavt h) λ at v p. four_eavt h c.args.s.now at (search rules)))

pub returns-in-Aevt : goal.returns-in-Aevt
returns-in-Aevt c =
    let same = c.plain_fours-in-Aevt.ensures.same in
    (c.plain_fours-in-Aevt.ensures.few, λ h. rw c.in-Aevt.is (same (order_in Aevt h) (order_plain Aevt h) λ at v p. four_aevt h c.args.s.now at (search rules)))

pub returns-in-Avet : goal.returns-in-Avet
returns-in-Avet c =
    let same = c.plain_fours-in-Avet.ensures.same in
    (c.plain_fours-in-Avet.ensures.few, λ h. rw c.in-Avet.is (same (order_in Avet h) (order_plain Avet h) λ at v p. four_avet h c.args.s.now at v (search rules) (search rules)))
