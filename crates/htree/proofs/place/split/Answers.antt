-- `split` meets its contract: the loop stands halfway, whatever was written before, and the last part ends it. Assumes nothing.
use Rattle.htree.specs.Split.{looping_next, looping_on, looping_end, looping_stop, looping_refused, divided, halfway_start, looping_ready, looping_same, looping_few, looping_share, looping_inner, looping_last}
use Rattle.std.proofs.lemmas.Result.{err_from_is_err_and}
use borrow.Author.Rules.{rules}
use native.Mathlib.Nat.{add-zero}
use native.Mathlib.Omega.{arith}
use mathlib.Core.Path.{◌≡◌, refl}
use Prim.Native.Nat.{◌+◌, ◌-◌, ◌/◌}
use Rattle.memory_store.specs.FetchLaws.{in_order}
use Rattle.htree.specs.Told.{tell_went, tell_stopped}
use Rattle.htree.proofs.place.split.Goals as goal

pub overflow_sub-pages : goal.overflow_sub-pages
overflow_sub-pages c =
    let a = c.args in
    let R = c.requires.0 in
    let K = (in_order a.extent a.store.now R.good).known in omega (arith, K.some, R.cap)

pub nonzero_div-pages : goal.nonzero_div-pages
nonzero_div-pages c =
    let a = c.args in
    let R = c.requires.0 in
    let K = (in_order a.extent a.store.now R.good).known in omega (arith, K.some, R.cap)

pub nonzero_div-each : goal.nonzero_div-each
nonzero_div-each c =
    let a = c.args in
    let R = c.requires.0 in
    let K = (in_order a.extent a.store.now R.good).known in
    let D = divided a.c a.n _ _ _ (omega (arith, K.some, R.cap)) (omega arith) refl refl refl in omega (arith, D.some)

pub nonzero_rem-more : goal.nonzero_rem-more
nonzero_rem-more c =
    let a = c.args in
    let R = c.requires.0 in
    let K = (in_order a.extent a.store.now R.good).known in
    let D = divided a.c a.n _ _ _ (omega (arith, K.some, R.cap)) (omega arith) refl refl refl in omega (arith, D.some)

pub overflow_sub-last : goal.overflow_sub-last
overflow_sub-last c =
    let a = c.args in
    let R = c.requires.0 in
    let K = (in_order a.extent a.store.now R.good).known in
    let D = divided a.c a.n _ _ _ (omega (arith, K.some, R.cap)) (omega arith) refl refl refl in omega (arith, D.some)

pub loop-p-init : goal.loop-p-init
loop-p-init c =
    let a = c.args in
    let R = c.requires.0 in
    let K = (in_order a.extent a.store.now R.good).known in
    let D = divided a.c a.n _ _ _ (omega (arith, K.some, R.cap)) (omega arith) refl refl refl in
    record {
      half = λ t o e. rw (add-zero, D.each, D.more) (halfway_start t a.extent a.store.now a.written a.level a.m a.n a.s.now o e _ (rw (← R.cap) D.pages) R.room);
      divided = D;
      begun = R;
      left = D.some;
    }

pub split_part-requires : goal.split_part-requires
split_part-requires c =
    let a = c.args in
    let I = c.loop-p.invariant in
    let R = looping_ready I in
    let K = (in_order a.extent c.loop-p.store R.good).known in
    let h = looping_share I in
    let e = c.share_of-k.ensures in
    (R, omega (arith, looping_same I), search rules, omega (arith, h.0), omega (arith, looping_inner I (omega arith)), omega (arith, h.1), looping_few I)

pub overflow_add-written : goal.overflow_add-written
overflow_add-written c =
    let I = c.loop-p.invariant in omega (arith, looping_next I)

pub overflow_add-next : goal.overflow_add-next
overflow_add-next c =
    let I = c.loop-p.invariant in omega (arith, looping_next I)

pub overflow_add-i : goal.overflow_add-i
overflow_add-i c =
    let a = c.args in
    let I = c.loop-p.invariant in
    let R = looping_ready I in
    let K = (in_order a.extent c.loop-p.store R.good).known in omega (arith, looping_inner I (omega arith), c.share_of-k.ensures)

pub loop-p-preserved : goal.loop-p-preserved
loop-p-preserved c =
    let a = c.args in
    let I = c.loop-p.invariant in
    let e : a.written + (c.loop-p.p + 1) ≡ a.written + c.loop-p.p + 1 = omega arith in
    rw e (looping_on I (omega arith) (omega arith) _ c.share_of-k.ensures (omega arith) _ _ _ c.in_ok-split_part.ensures)

pub returns-in_err-split_part : goal.returns-in_err-split_part
returns-in_err-split_part c =
    let I = c.loop-p.invariant in
    let q = err_from_is_err_and c.from_residual.result c.from_residual.ensures.1 in
    rw (q.1, q.2)
    (λ t o e. tell_stopped (looping_stop I _ c.share_of-k.ensures _ _ _ c.in_err-split_part.ensures t o e))

pub overflow_sub-n : goal.overflow_sub-n
overflow_sub-n c =
    let a = c.args in
    let I = c.loop-p.invariant in omega (arith, (looping_last I (omega (arith, I.left))).1)

pub put_part-requires : goal.put_part-requires
put_part-requires c =
    let a = c.args in
    let I = c.loop-p.invariant in
    let h = looping_last I (omega (arith, I.left)) in
    let z : (a.n + (a.c - 1)) / a.c - 1 ≡ c.loop-p.p = omega (arith, I.left) in
    (rw z (looping_ready I), omega (arith, looping_same I), search rules, omega (arith, h.1), omega (arith, h.0, (looping_share I).1, (looping_share I).0))

pub overflow_add-result : goal.overflow_add-result
overflow_add-result c =
    let a = c.args in
    let I = c.loop-p.invariant in omega (arith, looping_next I)

pub returns : goal.returns
returns c =
    let a = c.args in
    let I = c.loop-p.invariant in
    let z : (a.n + (a.c - 1)) / a.c - 1 ≡ c.loop-p.p = omega (arith, I.left) in
    λ t o e.
    rw (c.put_child.ensures, z)
    (tell_went (looping_end I (omega arith) (omega arith) (omega (arith, I.left)) _ _ (rw z at c.in_ok-id.ensures) t o e))

pub returns-in_err-id : goal.returns-in_err-id
returns-in_err-id c =
    let a = c.args in
    let I = c.loop-p.invariant in
    let z : (a.n + (a.c - 1)) / a.c - 1 ≡ c.loop-p.p = omega (arith, I.left) in
    let q = err_from_is_err_and c.from_residual-in_err-id.result c.from_residual-in_err-id.ensures.1 in
    rw (q.1, q.2)
    (λ t o e. tell_stopped (looping_refused I (omega (arith, I.left)) _ _ (rw z at c.in_err-id.ensures) t o e))
