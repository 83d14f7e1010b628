-- `put_part` meets its contract: too tall, then no room, then one page past those written. Assumes nothing.
use native.Mathlib.Nat.{div-le_self, add-mul, one-mul, le-div_iff_mul-le}
use Rattle.rules.specs.Page.{encode_page, node_of}
use Rattle.rules.specs.Node.{part_of}
use Rattle.rules.specs.Round.{encoded_length}
use Rattle.htree.specs.Wrote.{wrote_one}
use Prim.Native.Nat.{suc, ◌+◌, ◌*◌, ◌-◌, ◌≤◌}
use native.Mathlib.Omega.{arith}
use mathlib.Core.Path.{sym, ◌∙◌, ap}
use lib.ListN.{length, length-take, length-drop}
use Rattle.memory_store.specs.FetchLaws.{in_order}
use Rattle.htree.specs.PutLaws.{part_back, part_few, part_lens, put_tall, put_full, put_done, one_fits}
use borrow.Author.Rules.{rules}
use Rattle.htree.proofs.place.put_part.Goals as goal

pub returns-then-level-ge8 : goal.returns-then-level-ge8
unfolding part_of node_of
returns-then-level-ge8 c = λ t o e. rw (← e) (put_tall t _ _ _ o c.if-level-ge8.true)

pub nonzero_div-room : goal.nonzero_div-room
nonzero_div-room c =
    let a = c.args in
    let R = c.requires.0 in
    let o = in_order a.extent a.store.now R.good in omega (arith, o.known.fits)

pub overflow_sub-room : goal.overflow_sub-room
overflow_sub-room c =
    let a = c.args in
    let R = c.requires.0 in
    let o = in_order a.extent a.store.now R.good in omega (arith, (le-div_iff_mul-le {k = a.extent.size} (omega (arith, o.known.fits))).1 o.holds)

pub returns-then-room-written : goal.returns-then-room-written
unfolding part_of node_of
returns-then-room-written c = λ t o e. rw (← e) (put_full t _ _ _ o (omega arith) (omega arith))

pub write_page-requires : goal.write_page-requires
write_page-requires c =
    let a = c.args in
    let R = c.requires.0 in
    let o = in_order a.extent a.store.now R.good in
    let f = one_fits a.extent a.store.now a.written (omega (arith, o.known.fits)) (omega arith) in
    let e = add-mul (a.extent.count + a.written) 1 a.extent.size in
    let g = add-mul a.extent.count a.written a.extent.size in
    let h = one-mul a.extent.size in
    let l : length a.store.now - a.extent.count * a.extent.size ≤ length a.store.now - a.extent.count * a.extent.size = omega arith in
    (simp (length-take, length-drop) (omega arith), omega (arith, o.known.fits, R.cap), o.known.most, omega arith, search rules, search rules, search rules, search rules)

pub returns : goal.returns
unfolding part_of node_of
returns c =
    let a = c.args in
    let R = c.requires.0 in
    let o = in_order a.extent a.store.now R.good in
    let f = one_fits a.extent a.store.now a.written (omega (arith, o.known.fits)) (omega arith) in
    let e = add-mul (a.extent.count + a.written) 1 a.extent.size in
    let g = add-mul a.extent.count a.written a.extent.size in
    let h = one-mul a.extent.size in
    let n = part_of a.i a.a (node_of a.m a.level a.n a.area.now) in
    let enc = encode_page a.extent.size a.c n in
    let back = part_back a.store.now (a.extent.count * a.extent.size) (a.written * a.extent.size) enc (omega arith) in
    let size = encoded_length a.extent.size a.c n (omega (arith, o.known.fits, R.cap))
    (omega (arith, part_few a.m a.level a.n a.i a.a a.area.now (omega arith)))
    (part_lens a.m a.level a.n a.i a.a a.area.now (omega arith)
    ∙ ap suc (sym (part_few a.m a.level a.n a.i a.a a.area.now (omega arith)))) in
    λ t q l.
    put_done t a.extent a.store.now n q (omega arith) a.written l (omega (arith, div-le_self (length a.store.now) a.extent.size)) (omega arith)
    (rw (c.write_page.ensures, back, ← g, R.cap)
    (wrote_one a.extent a.store.now a.written n (rw R.cap at size) f))
