-- `read_page` meets its contract: one law for each way through. Assumes nothing.
use Rattle.std.proofs.Common.{sym, ◌∙◌}
use Rattle.index.specs.Order.{order_in}
use Rattle.memory_store.specs.Reading.{said}
use Rattle.memory_store.specs.Ways.{way_level, way_count, way_form, way_order, way_on}
use Rattle.memory_store.proofs.reader.read_page.Goals as goal

pub returns-then-level-gt7 : goal.returns-then-level-gt7
unfolding said
returns-then-level-gt7 c = way_level _ _ _ _ _ c.level_of-level.ensures c.if-level-gt7.true

pub returns-then-c-k : goal.returns-then-c-k
unfolding said
returns-then-c-k c = way_count _ _ _ _ _ c.level_of-level.ensures _ c.count_of-k.ensures c.if-level-gt7.false c.if-c-k.true

pub returns-then-not-all_stored : goal.returns-then-not-all_stored
unfolding said order_in
returns-then-not-all_stored c =
    way_form _ _ _ _ _ c.level_of-level.ensures _ c.count_of-k.ensures c.if-level-gt7.false c.if-c-k.false
    ((c.plain_front-plain.ensures.1 _).0 ∙ sym c.all_stored.ensures ∙ c.if-not-all_stored.true)

pub returns-then-not-all_rising : goal.returns-then-not-all_rising
unfolding said order_in
returns-then-not-all_rising c =
    let same = c.plain_front-plain.ensures.1 _ in
    way_order _ _ _ _ _ c.level_of-level.ensures _ c.count_of-k.ensures c.if-level-gt7.false c.if-c-k.false
    (same.0 ∙ sym c.all_stored.ensures ∙ c.if-not-all_stored.false)
    (same.1 ∙ sym c.all_rising.ensures ∙ c.if-not-all_rising.true)

pub returns : goal.returns
unfolding order_in
returns c =
    let same = c.plain_front-plain.ensures.1 _ in
    c.read_children.ensures
    ∙ way_on _ _ _ _ _ c.level_of-level.ensures _ c.count_of-k.ensures c.if-level-gt7.false c.if-c-k.false
    (same.0 ∙ sym c.all_stored.ensures ∙ c.if-not-all_stored.false)
    (same.1 ∙ sym c.all_rising.ensures ∙ c.if-not-all_rising.false)
