-- `leaf` meets its contract: the area holds a leaf, and its top is the root. Assumes nothing.
use native.Mathlib.Omega.{arith}
use Rattle.entry.specs.Scratch.{roomy_few, roomy_ready, roomy_small, roomy_area}
use Rattle.entry.specs.Leaf.{fresh_front, cleared_leaf}
use Rattle.entry.proofs.write.leaf.Goals as goal

pub room_for-m-requires : goal.room_for-m-requires
room_for-m-requires c = roomy_few c.requires

pub clear_children-requires : goal.clear_children-requires
clear_children-requires c = let R = c.requires in let m = c.room_for-m.ensures in (omega (arith, roomy_area R _ m), (roomy_small R _ m).0)

pub write_root-requires : goal.write_root-requires
write_root-requires c =
    let R = c.requires in
    let m = c.room_for-m.ensures in (roomy_ready R, omega (arith, roomy_area R _ m), (roomy_small R _ m).0, omega arith)

pub returns : goal.returns
returns c =
    let R = c.requires in
    let a = c.args in
    let m = c.room_for-m.ensures in
    λ t o e. rw (fresh_front _ a.n a.s.now o, ← cleared_leaf _ a.n a.s.now _ c.clear_children.ensures (roomy_small R _ m).0) (c.write_root.ensures t o e)
