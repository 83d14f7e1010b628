-- `write_root` meets its contract: the loop rises, whatever was written before, and the top ends it. Assumes nothing.
use native.Mathlib.Omega.{arith}
use Rattle.std.proofs.lemmas.Result.{err_from_is_err_and}
use Rattle.htree.specs.Root.{rises_start, rises_ready, rises_end, rises_stop, rises_fewer, rises_on}
use Rattle.htree.proofs.root.write_root.Goals as goal

pub loop-up-init : goal.loop-up-init
loop-up-init c =
    let a = c.args in
    rises_start a.extent a.store.now a.c a.written a.level a.m a.n a.s.now c.requires.0

pub split-requires : goal.split-requires
split-requires c =
    let a = c.args in
    let I = c.loop-up.invariant in
    (rises_ready I, omega (arith, I.same), omega (arith, I.few), omega arith)

pub loop-up-smaller : goal.loop-up-smaller
loop-up-smaller c =
    let a = c.args in
    let I = c.loop-up.invariant in
    rises_fewer I (omega (arith, I.begun.cap)) _ _ _ _ c.in_ok-up.ensures

pub loop-up-preserved : goal.loop-up-preserved
loop-up-preserved c =
    let a = c.args in
    let I = c.loop-up.invariant in
    rises_on I (omega (arith, I.begun.cap)) _ _ _ _ c.in_ok-up.ensures (omega arith)

pub returns-in_err-up : goal.returns-in_err-up
returns-in_err-up c =
    let I = c.loop-up.invariant in
    let q = err_from_is_err_and c.from_residual.result c.from_residual.ensures.1 in
    rw (q.1, q.2) (rises_stop I (omega (arith, I.begun.cap)) _ _ _ _ c.in_err-up.ensures)

pub top-requires : goal.top-requires
top-requires c =
    let a = c.args in
    let I = c.loop-up.invariant in
    (rises_ready I, omega (arith, I.same), omega (arith, I.few), omega arith)

pub returns : goal.returns
returns c =
    let a = c.args in
    let I = c.loop-up.invariant in
    rises_end I (omega (arith, I.begun.cap)) _ _ c.top.ensures
