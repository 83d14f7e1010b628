-- `insert_into`, `drain` and `flush` meet their contracts: the level falls at each round of the cycle. Assumes nothing.
use Prim.Native.Nat.{◌+◌, ◌-◌, ◌*◌}
use native.Mathlib.Nat.{sub-zero, add-mul, one-mul}
use native.Mathlib.Omega.{arith}
use mathlib.Core.Path.{◌≡◌, sym, ◌∙◌}
use lib.ListN.{length}
use Rattle.std.proofs.lemmas.Result.{err_from_is_err_and}
use Rattle.std.specs.Prelude.{Ok, Err}
use borrow.Author.Rules.{rules}
use Rattle.answer.specs.declared.Fault.{Fault}
use Rattle.answer.specs.declared.Refusal.TheVariants.{Damaged}
use Rattle.htree.specs.Told.{failed}
use Rattle.index.specs.Order.{ord}
use Rattle.htree.specs.Cycle.{rooms, area_fits, drains_start, drains_ready, drains_small, drains_sent, drains_none, drains_on, drains_stop, flush_fails, flush_back, flush_done, insert_bad, loads_few, insert_flat, insert_stops, went_ready, went_few, insert_goes}
use Rattle.htree.proofs.insert.+drain_flush_insert_into.Goals as goal

pub drain-loop-turn-init : goal.drain-loop-turn-init
drain-loop-turn-init t c = let a = c.args in rw sub-zero (drains_start (ord a.order) _ _ _ _ _ _ _ _ c.requires.0)

pub drain-returns-then-left-c : goal.drain-returns-then-left-c
drain-returns-then-left-c t c =
    let a = c.args in
    let I = c.loop-turn.invariant in
    let P = c.requires in
    λ o e. drains_small I (omega (arith, P.2)) o e (omega (arith, P.0.cap))

pub drain-returns-then-not-has_pending : goal.drain-returns-then-not-has_pending
drain-returns-then-not-has_pending t c =
    let a = c.args in
    let I = c.loop-turn.invariant in
    let P = c.requires in
    λ o e. drains_sent I (omega (arith, P.2)) o e (sym c.has_pending.ensures ∙ c.if-not-has_pending.true)

pub drain-flush-requires : goal.drain-flush-requires
drain-flush-requires t c =
    let a = c.args in
    let I = c.loop-turn.invariant in
    let P = c.requires in
    (omega arith, (drains_ready I, P.1, omega (arith, I.few, P.2), omega (arith, I.same, P.3)))

pub drain-returns-in_err-left : goal.drain-returns-in_err-left
drain-returns-in_err-left t c =
    let I = c.loop-turn.invariant in
    let P = c.requires in
    let q = err_from_is_err_and c.from_residual.result c.from_residual.ensures.1 in
    rw (q.1, q.2)
    (drains_stop I (omega arith) (omega (arith, P.0.cap)) (sym c.has_pending.ensures ∙ c.if-not-has_pending.false) _ _ _ _ c.in_err-left.ensures)

pub drain-loop-turn-preserved : goal.drain-loop-turn-preserved
drain-loop-turn-preserved t c =
    let a = c.args in
    let I = c.loop-turn.invariant in
    let P = c.requires in
    let fewer : a.n - (c.loop-turn.turn + 1) ≡ a.n - c.loop-turn.turn - 1 = omega arith in
    rw fewer
    (drains_on I (omega arith) (omega (arith, P.0.cap)) (sym c.has_pending.ensures ∙ c.if-not-has_pending.false) _ _ _ _ c.in_ok-left.ensures (omega arith))

pub drain-returns : goal.drain-returns
drain-returns t c =
    let a = c.args in
    let I = c.loop-turn.invariant in
    let P = c.requires in
    λ o e. drains_none I (omega (arith, P.2)) o e (omega arith)

pub flush-splice-requires : goal.flush-splice-requires
flush-splice-requires t c =
    let a = c.args in
    let P = c.requires in
    let g = rooms a.level (40 * a.m + 8) (32 * a.m) (length a.s.now) P.1 P.3 in
    let Q = c.longest_pending_span-span.ensures in
    let T = rw (c.move_span.ensures, c.child_at-child.ensures) at c.in_ok-back.ensures in
    let J = flush_back a.extent a.store.now a.c a.written a.level a.m a.n a.s.now P.0 c.longest_pending_span-span.result Q (omega (arith, P.2)) (omega arith) (ord a.order) _ _ _ _ T in
    (omega (arith, J, Q.rises), (Q.within, (omega (arith, P.2), omega arith)))

pub flush-overflow_add-result : goal.flush-overflow_add-result
flush-overflow_add-result t c =
    let a = c.args in
    let P = c.requires in
    let g = rooms a.level (40 * a.m + 8) (32 * a.m) (length a.s.now) P.1 P.3 in
    let Q = c.longest_pending_span-span.ensures in
    let T = rw (c.move_span.ensures, c.child_at-child.ensures) at c.in_ok-back.ensures in
    omega (arith, flush_back a.extent a.store.now a.c a.written a.level a.m a.n a.s.now P.0 c.longest_pending_span-span.result Q (omega (arith, P.2)) (omega arith) (ord a.order) _ _ _ _ T, Q.rises, Q.within, c.ranges.n.fits)

pub flush-returns : goal.flush-returns
flush-returns t c =
    let a = c.args in
    let P = c.requires in
    let g = rooms a.level (40 * a.m + 8) (32 * a.m) (length a.s.now) P.1 P.3 in
    let Q = c.longest_pending_span-span.ensures in
    let T = rw (c.move_span.ensures, c.child_at-child.ensures) at c.in_ok-back.ensures in
    flush_done a.extent a.store.now a.c a.written a.level a.m a.n a.s.now P.0 c.longest_pending_span-span.result Q (omega (arith, P.2)) (omega arith) (ord a.order) _ _ _ _ _ T (rw c.move_span.ensures at c.splice.ensures)

pub flush-returns-in_err-back : goal.flush-returns-in_err-back
flush-returns-in_err-back t c =
    let a = c.args in
    let P = c.requires in
    let g = rooms a.level (40 * a.m + 8) (32 * a.m) (length a.s.now) P.1 P.3 in
    let Q = c.longest_pending_span-span.ensures in
    let T = rw (c.move_span.ensures, c.child_at-child.ensures) at c.in_err-back.ensures in
    let q = err_from_is_err_and c.from_residual.result c.from_residual.ensures.1 in
    rw (q.1, q.2)
    (flush_fails a.extent a.store.now a.c a.written a.level a.m a.n a.s.now P.0 c.longest_pending_span-span.result Q (omega (arith, P.2)) (omega arith) (ord a.order) _ _ _ _ _ T)

pub insert_into-settle-requires : goal.insert_into-settle-requires
insert_into-settle-requires t c =
    let a = c.args in
    let P = c.requires in
    let at : c.load-loaded.result ≡ Ok c.in_ok-count.count = search rules in
    let of = c.new-pages.ensures in
    let L = rw (at, of.bytes, of.extent, of.order) at c.load-loaded.ensures in
    let f = area_fits a.level (40 * a.m + 8) (32 * a.m) (length a.s.now) P.2 in
    let g = area_fits a.level a.c a.n a.m P.1 in
    let h = loads_few (ord a.order) a.extent a.store.now a.c a.written a.level a.page a.s.now a.m a.n _ L in (P.0, omega arith, omega (arith, P.0.cap))

pub insert_into-returns-then-level-eq0 : goal.insert_into-returns-then-level-eq0
insert_into-returns-then-level-eq0 t c =
    let a = c.args in
    let P = c.requires in
    let at : c.load-loaded.result ≡ Ok c.in_ok-count.count = search rules in
    let of = c.new-pages.ensures in
    let L = rw (at, of.bytes, of.extent, of.order) at c.load-loaded.ensures in
    let f = area_fits a.level (40 * a.m + 8) (32 * a.m) (length a.s.now) P.2 in
    let g = area_fits a.level a.c a.n a.m P.1 in
    let h = loads_few (ord a.order) a.extent a.store.now a.c a.written a.level a.page a.s.now a.m a.n _ L in
    insert_flat (ord a.order) a.extent a.store.now a.c a.written a.level a.page a.s.now a.m a.n _ L c.if-level-eq0.true _ _ _ (c.settle.ensures (ord a.order))

pub insert_into-drain-requires : goal.insert_into-drain-requires
insert_into-drain-requires t c =
    let a = c.args in
    let P = c.requires in
    let at : c.load-loaded.result ≡ Ok c.in_ok-count.count = search rules in
    let of = c.new-pages.ensures in
    let L = rw (at, of.bytes, of.extent, of.order) at c.load-loaded.ensures in
    let f = area_fits a.level (40 * a.m + 8) (32 * a.m) (length a.s.now) P.2 in
    let g = area_fits a.level a.c a.n a.m P.1 in
    let h = loads_few (ord a.order) a.extent a.store.now a.c a.written a.level a.page a.s.now a.m a.n _ L in
    let k = add-mul a.level 1 a.c in
    (omega arith, (P.0, omega arith, omega (arith, P.0.cap, P.1, one-mul a.c), omega (arith, P.2)))

pub insert_into-settle-requires-2 : goal.insert_into-settle-requires-2
insert_into-settle-requires-2 t c =
    let a = c.args in
    let P = c.requires in
    let at : c.load-loaded.result ≡ Ok c.in_ok-count.count = search rules in
    let of = c.new-pages.ensures in
    let L = rw (at, of.bytes, of.extent, of.order) at c.load-loaded.ensures in
    let f = area_fits a.level (40 * a.m + 8) (32 * a.m) (length a.s.now) P.2 in
    let g = area_fits a.level a.c a.n a.m P.1 in
    let h = loads_few (ord a.order) a.extent a.store.now a.c a.written a.level a.page a.s.now a.m a.n _ L in
    let T = c.in_ok-left.ensures in
    (went_ready (ord a.order) a.extent a.store.now a.c a.written a.level a.page a.s.now a.m a.n _ L (omega arith) _ _ _ _ T P.0, omega arith, went_few (ord a.order) a.extent a.store.now a.c a.written a.level a.page a.s.now a.m a.n _ L (omega arith) _ _ _ _ T)

pub insert_into-returns-in_err-count : goal.insert_into-returns-in_err-count
insert_into-returns-in_err-count t c =
    let a = c.args in
    let of = c.new-pages.ensures in
    let L = rw (of.bytes, of.extent, of.order) at c.load-loaded.ensures in
    let e : (f : Fault) × ((c.load-loaded.result ≡ Err f) × (c.from_residual.result ≡ Err (failed (Damaged a.page f) a.written))) = search rules in
    rw e.1.1
    (insert_bad (ord a.order) a.extent a.store.now a.c a.written a.level a.page a.s.now a.m a.n _ c.requires.0 e.0 (rw e.1.0 at L) _)

pub insert_into-returns : goal.insert_into-returns
insert_into-returns t c =
    let a = c.args in
    let P = c.requires in
    let at : c.load-loaded.result ≡ Ok c.in_ok-count.count = search rules in
    let of = c.new-pages.ensures in
    let L = rw (at, of.bytes, of.extent, of.order) at c.load-loaded.ensures in
    let f = area_fits a.level (40 * a.m + 8) (32 * a.m) (length a.s.now) P.2 in
    let g = area_fits a.level a.c a.n a.m P.1 in
    let h = loads_few (ord a.order) a.extent a.store.now a.c a.written a.level a.page a.s.now a.m a.n _ L in
    let T = c.in_ok-left.ensures in
    insert_goes (ord a.order) a.extent a.store.now a.c a.written a.level a.page a.s.now a.m a.n _ L (omega arith) _ _ _ _ T _ _ _ (c.settle-2.ensures (ord a.order))

pub insert_into-returns-in_err-left : goal.insert_into-returns-in_err-left
insert_into-returns-in_err-left t c =
    let a = c.args in
    let P = c.requires in
    let at : c.load-loaded.result ≡ Ok c.in_ok-count.count = search rules in
    let of = c.new-pages.ensures in
    let L = rw (at, of.bytes, of.extent, of.order) at c.load-loaded.ensures in
    let f = area_fits a.level (40 * a.m + 8) (32 * a.m) (length a.s.now) P.2 in
    let g = area_fits a.level a.c a.n a.m P.1 in
    let h = loads_few (ord a.order) a.extent a.store.now a.c a.written a.level a.page a.s.now a.m a.n _ L in
    let q = err_from_is_err_and c.from_residual-in_err-left.result c.from_residual-in_err-left.ensures.1 in
    rw (q.1, q.2)
    (insert_stops (ord a.order) a.extent a.store.now a.c a.written a.level a.page a.s.now a.m a.n _ L (omega arith) _ _ _ _ c.in_err-left.ensures)
