-- `advance` meets its contract: beside a pending datom the levels below stay, behind a midpoint they are filled anew. Assumes nothing.
use native.Mathlib.Omega.{arith}
use mathlib.Core.Path.{sym, ap, ◌∙◌}
use lib.ListN.{get_or}
use Rattle.store.specs.Page.{page}
use Rattle.memory_store.specs.Pages.{order_of}
use Rattle.rules.specs.Node.{is_midpoint}
use Rattle.memory_store.specs.FetchLaws.{in_order}
use Rattle.listing.specs.AdvanceLaws.{within_open, within_most, within_children, adv_bottom, adv_pending, adv_child, adv_stuck}
use Rattle.listing.proofs.step.advance.Goals as goal

pub count_of-count-requires : goal.count_of-count-requires
count_of-count-requires c =
    let a = c.args in
    let p = a.pages.now in
    let b = a.begin in
    let q = get_or b.pages a.level (page 0) in
    let good = p.in_order in
    let within = c.requires.1 in
    let o = within_open (order_of p) p.extent p.store.now q _ good within in
    rw (c.fetch-part.ensures, o.bytes, p.sized) o.wide

pub overflow_add-next : goal.overflow_add-next
overflow_add-next c =
    let a = c.args in
    let p = a.pages.now in
    let b = a.begin in
    let q = get_or b.pages a.level (page 0) in
    let good = p.in_order in
    let within = c.requires.1 in
    let o = within_open (order_of p) p.extent p.store.now q _ good within in
    let few = (in_order p.extent p.store.now good).known.few in
    omega (arith, within_most (order_of p) p.extent p.store.now q _ good within, o.few, few)

pub returns-then-level-eq0 : goal.returns-then-level-eq0
returns-then-level-eq0 c =
    let a = c.args in
    let p = a.pages.now in
    adv_bottom (order_of p) p.extent p.store.now a.begin a.level c.if-level-eq0.true

pub is_midpoint_at-requires : goal.is_midpoint_at-requires
is_midpoint_at-requires c =
    let a = c.args in
    let p = a.pages.now in
    let b = a.begin in
    let q = get_or b.pages a.level (page 0) in
    let good = p.in_order in
    let within = c.requires.1 in
    let o = within_open (order_of p) p.extent p.store.now q _ good within in
    rw (c.count_of-count.ensures, c.fetch-part.ensures, o.bytes, p.sized)
    (o.few, (omega (arith, o.wide), within_most (order_of p) p.extent p.store.now q _ good within))

pub returns-then-not-is_midpoint_at : goal.returns-then-not-is_midpoint_at
returns-then-not-is_midpoint_at c =
    let a = c.args in
    let p = a.pages.now in
    let b = a.begin in
    let q = get_or b.pages a.level (page 0) in
    let good = p.in_order in
    let within = c.requires.1 in
    let o = within_open (order_of p) p.extent p.store.now q _ good within in
    let kids = within_children (order_of p) p.extent p.store.now q _ good within in
    let mid = rw (c.count_of-count.ensures, c.fetch-part.ensures, o.bytes, p.sized) at c.is_midpoint_at.ensures in
    adv_pending (order_of p) p.extent p.store.now b a.level c.if-level-eq0.false (ap (λ ks. is_midpoint ks (get_or b.indices a.level 0)) kids ∙ sym mid ∙ c.if-not-is_midpoint_at.true)

pub overflow_add-i : goal.overflow_add-i
overflow_add-i c =
    let a = c.args in
    let p = a.pages.now in
    let b = a.begin in
    let q = get_or b.pages a.level (page 0) in
    let good = p.in_order in
    let within = c.requires.1 in
    let o = within_open (order_of p) p.extent p.store.now q _ good within in
    let few = (in_order p.extent p.store.now good).known.few in
    omega (arith, within_most (order_of p) p.extent p.store.now q _ good within, o.few, few)

pub next_midpoint-requires : goal.next_midpoint-requires
next_midpoint-requires c =
    let a = c.args in
    let p = a.pages.now in
    let b = a.begin in
    let q = get_or b.pages a.level (page 0) in
    let good = p.in_order in
    let within = c.requires.1 in
    let o = within_open (order_of p) p.extent p.store.now q _ good within in
    rw (c.count_of-count.ensures, c.fetch-part.ensures, o.bytes, p.sized)
    (o.few, omega (arith, o.wide))

pub returns-in_default : goal.returns-in_default
returns-in_default c =
    let a = c.args in
    let p = a.pages.now in
    let b = a.begin in
    let q = get_or b.pages a.level (page 0) in
    let good = p.in_order in
    let within = c.requires.1 in
    let o = within_open (order_of p) p.extent p.store.now q _ good within in
    let kids = within_children (order_of p) p.extent p.store.now q _ good within in
    let mid = rw (c.count_of-count.ensures, c.fetch-part.ensures, o.bytes, p.sized) at c.is_midpoint_at.ensures in
    let next = rw (c.count_of-count.ensures, c.fetch-part.ensures, o.bytes, p.sized, ← kids) at c.next_midpoint.ensures in
    rw c.max.ensures (adv_stuck (order_of p) p.extent p.store.now b a.level c.if-level-eq0.false (ap (λ ks. is_midpoint ks (get_or b.indices a.level 0)) kids ∙ sym mid ∙ c.if-not-is_midpoint_at.false) (omega arith) (sym next ∙ c.in_default.is))

pub returns : goal.returns
returns c =
    let a = c.args in
    let p = a.pages.now in
    let b = a.begin in
    let q = get_or b.pages a.level (page 0) in
    let good = p.in_order in
    let within = c.requires.1 in
    let o = within_open (order_of p) p.extent p.store.now q _ good within in
    let kids = within_children (order_of p) p.extent p.store.now q _ good within in
    let mid = rw (c.count_of-count.ensures, c.fetch-part.ensures, o.bytes, p.sized) at c.is_midpoint_at.ensures in
    let next = rw (c.count_of-count.ensures, c.fetch-part.ensures, o.bytes, p.sized, ← kids) at c.next_midpoint.ensures in
    c.descend.ensures
    ∙ adv_child (order_of p) p.extent p.store.now b a.level c.if-level-eq0.false (ap (λ ks. is_midpoint ks (get_or b.indices a.level 0)) kids ∙ sym mid ∙ c.if-not-is_midpoint_at.false) _ (sym next ∙ c.in-Some.is)
