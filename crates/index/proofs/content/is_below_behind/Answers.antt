-- `content::is_below_behind` meets its contract: the first bytes of the texts tell, or the whole comparison. Assumes nothing.
use Prim.Native.Nat.{compare}
use Rattle.std.proofs.Common.{sym}
use Rattle.index.proofs.Ways.{less_front}
use Rattle.index.specs.Named.{less_named, less_named_law}
use Rattle.index.specs.Order.{and_then, cmp_value}
use Rattle.index.proofs.content.is_below_behind.Goals as goal

pub returns-then-texts_rise : goal.returns-then-texts_rise
returns-then-texts_rise c = sym (less_named _ (sym (less_front _ _ (sym (c.texts_rise.ensures c.if-texts_rise.true))))).0

pub returns : goal.returns
returns c =
    let a = c.args in
    cc (less_named_law (and_then (cmp_value a.heap.now a.a a.b) (and_then (compare a.x a.y) (compare a.s a.t))))
