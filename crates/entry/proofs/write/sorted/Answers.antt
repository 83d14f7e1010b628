-- `sorted` meets its contract: the batch is laid to the front and sorted there. Assumes nothing.
use mathlib.Core.Path.{refl, ◌∙◌, ap}
use native.Mathlib.Omega.{arith}
use Rattle.datom.specs.Datom.{datoms_of}
use Rattle.index.specs.Order.{ord}
use Rattle.rules.specs.Insert.{sort}
use Rattle.entry.specs.Scratch.{roomy_area, roomy_small}
use Rattle.entry.specs.Leaf.{batch_put}
use Rattle.entry.proofs.write.sorted.Goals as goal

pub put-requires : goal.put-requires
put-requires c =
    let P = c.requires in
    omega (arith, P.batch, roomy_area P.roomy _ refl, (roomy_small P.roomy _ refl).0)

pub sort-requires : goal.sort-requires
sort-requires c =
    let P = c.requires in
    omega (arith, P.batch, roomy_area P.roomy _ refl, (roomy_small P.roomy _ refl).0)

pub returns : goal.returns
returns c =
    let a = c.args in
    let e = ap (datoms_of a.n) c.put.ensures ∙ batch_put a.n 0 a.s.now a.b.now (omega arith) c.requires.batch in
    let f = c.sort.ensures.datoms ∙ ap (sort (ord a.order).cmp) e in
    λ o h. rw (← f) (c.leaf.ensures (ord a.order) o h)
