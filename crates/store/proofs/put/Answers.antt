-- `store::put` meets its contract: what is put so far lies over what there was. Assumes nothing.
use Rattle.std.proofs.Common.{arith, ap, refl, ◌∙◌, List, ℕ, ◌+◌, slice_set, slice_index_or}
use Rattle.std.proofs.Math.ListN.{length-set}
use Rattle.store.specs.Padding.{put_none, put_more}
use Rattle.store.proofs.put.Goals as goal

pub loop-i-init : goal.loop-i-init
loop-i-init c = (refl, put_none _ _ c.args.p.now)

pub loop-i-preserved : goal.loop-i-preserved
loop-i-preserved c =
    let a = c.args in
    let l = c.loop-i in
    (length-set l.s (a.at + l.i) _ ∙ l.invariant.0, ap (λ (s : List ℕ). slice_set s (a.at + l.i) (slice_index_or a.p.now l.i 0)) l.invariant.1 ∙ put_more a.s.now a.p.now a.at l.i (omega arith) (omega arith))
