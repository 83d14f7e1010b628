-- `first_not_below` meets its contract: the index sought lies between the two ends. Assumes nothing.
use Rattle.std.proofs.Common.{◌≡◌, ◌+◌, ◌-◌, ◌*◌, ◌/◌, true, false, zero-le, arith}
use Rattle.datom.specs.Datom.{datom_at}
use Rattle.index.specs.Order.{ord, is_less}
use Rattle.index.proofs.Laws.{order_preorder}
use Rattle.memory_store.specs.RankLaws.{seek_right, seek_left, rank_within}
use Rattle.index.specs.Named.{less_named_law}
use Rattle.memory_store.proofs.access.first_not_below.Goals as goal

pub loop-lo-init : goal.loop-lo-init
loop-lo-init c = (zero-le, rank_within (ord c.args.order) _ _ _, omega arith)

pub loop-lo-preserved-then-is_lt : goal.loop-lo-preserved-then-is_lt
loop-lo-preserved-then-is_lt c =
    let a = c.args in
    let l = c.loop-lo in
    let i = l.lo + (l.hi - l.lo) / 2 in
    let e : is_less ((ord a.order).cmp (datom_at a.s.now (32 * i)) a.d) ≡ true = cc (less_named_law ((ord a.order).cmp (datom_at a.s.now (32 * i)) a.d), c.if-is_lt.true) in
    (omega (arith, seek_right (ord a.order) a.k a.s.now a.d i (omega arith) (order_preorder a.order.by a.order.heap.now) c.requires.1 e), l.invariant.1, l.invariant.2)

pub loop-lo-preserved : goal.loop-lo-preserved
loop-lo-preserved c =
    let a = c.args in
    let l = c.loop-lo in
    let i = l.lo + (l.hi - l.lo) / 2 in
    let e : is_less ((ord a.order).cmp (datom_at a.s.now (32 * i)) a.d) ≡ false = cc (less_named_law ((ord a.order).cmp (datom_at a.s.now (32 * i)) a.d), c.if-is_lt.false) in
    (l.invariant.0, seek_left (ord a.order) a.k a.s.now a.d i (omega arith) e, omega arith)
