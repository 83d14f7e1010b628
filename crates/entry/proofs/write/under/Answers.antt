-- `under` meets its contract: the batch lies behind the area, and what comes back is the top. Assumes nothing.
use native.Mathlib.Omega.{arith}
use Prim.Native.Nat.{◌+◌, ◌*◌}
use Rattle.std.proofs.lemmas.Result.{err_from_is_err_and}
use Rattle.datom.specs.Datom.{datoms_of}
use Rattle.index.specs.Order.{ord}
use Rattle.memory_store.specs.Readable.{opens}
use Rattle.memory_store.specs.Opened.{node_opened}
use Rattle.htree.specs.Raise.{raise_stops, raise_ready, raise_few, raise_goes}
use Rattle.entry.specs.Scratch.{roomy_few, roomy_ready, roomy_small, roomy_area, roomy_node, roomy_areas}
use Rattle.entry.specs.Leaf.{batch_put}
use Rattle.entry.proofs.write.under.Goals as goal

pub room_for-m-requires : goal.room_for-m-requires
room_for-m-requires c = roomy_few c.requires.0.roomy

pub overflow_mul-m : goal.overflow_mul-m
overflow_mul-m c =
    let a = c.args in
    let P = c.requires.0 in
    let R = P.roomy in
    let m = c.room_for-m.ensures in
    omega (arith, (roomy_small R _ m).1)

pub overflow_add-m : goal.overflow_add-m
overflow_add-m c =
    let a = c.args in
    let P = c.requires.0 in
    let R = P.roomy in
    let m = c.room_for-m.ensures in
    omega (arith, (roomy_small R _ m).1)

pub put-requires : goal.put-requires
put-requires c =
    let a = c.args in
    let P = c.requires.0 in
    let R = P.roomy in
    let m = c.room_for-m.ensures in
    omega (arith, roomy_area R _ m, (roomy_small R _ m).0, P.batch)

pub insert_into-requires : goal.insert_into-requires
insert_into-requires c =
    let a = c.args in
    let P = c.requires.0 in
    let R = P.roomy in
    let low = (opens (ord a.order) a.extent a.store.now a.root a.level a.count R.good c.requires.1).low in
    let m = c.room_for-m.ensures in (
      roomy_ready R,
      roomy_node R _ m a.level low,
      omega (arith, roomy_areas R _ m a.level low),
      node_opened (ord a.order) a.extent a.store.now a.root a.level a.count c.requires.1,
    )

pub overflow_add-level : goal.overflow_add-level
overflow_add-level c =
    let a = c.args in
    let P = c.requires.0 in
    let R = P.roomy in
    let low = (opens (ord a.order) a.extent a.store.now a.root a.level a.count R.good c.requires.1).low in
    omega (arith, low)

pub write_root-requires : goal.write_root-requires
write_root-requires c =
    let a = c.args in
    let P = c.requires.0 in
    let R = P.roomy in
    let low = (opens (ord a.order) a.extent a.store.now a.root a.level a.count R.good c.requires.1).low in
    let m = c.room_for-m.ensures in
    (raise_ready (ord a.order) _ _ a.level _ _ _ 0 _ _ _ _ c.in_ok-up.ensures (roomy_ready R), omega (arith, roomy_area R _ m), raise_few (ord a.order) _ _ a.level _ _ _ 0 _ _ _ _ c.in_ok-up.ensures, omega (arith, low))

pub returns : goal.returns
returns c =
    let a = c.args in
    let P = c.requires.0 in
    let R = P.roomy in
    let m = c.room_for-m.ensures in
    let T = rw (batch_put a.n (40 * c.room_for-m.result + 8) a.s.now a.b.now (omega (arith, roomy_area R _ m)) P.batch) at (rw c.put.ensures at c.in_ok-up.ensures) in
    raise_goes (ord a.order) a.extent a.store.now a.level _ a.root (datoms_of a.n a.b.now) 0 _ _ _ _ T _ _ (c.write_root.ensures (ord a.order))

pub returns-in_err-up : goal.returns-in_err-up
returns-in_err-up c =
    let a = c.args in
    let P = c.requires.0 in
    let R = P.roomy in
    let m = c.room_for-m.ensures in
    let T = rw (batch_put a.n (40 * c.room_for-m.result + 8) a.s.now a.b.now (omega (arith, roomy_area R _ m)) P.batch) at (rw c.put.ensures at c.in_err-up.ensures) in
    let q = err_from_is_err_and c.from_residual.result c.from_residual.ensures.1 in
    rw (q.1, q.2) (raise_stops (ord a.order) a.extent a.store.now a.level _ a.root (datoms_of a.n a.b.now) 0 _ _ _ _ T)
