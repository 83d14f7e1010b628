-- `bound_at` meets its contract. Assumes nothing.
use Rattle.invariants.specs.Bounds.{bound_at_datom, bound_past, bound_of}
use mathlib.Core.Path.{◌∙◌, ap}
use Rattle.std.specs.Prelude.{Some}
use Rattle.datom.specs.declared.Datom.{Datom}
use Rattle.invariants.proofs.bound.bound_at.Goals as goal

pub returns-then-i-k : goal.returns-then-i-k
returns-then-i-k c = let a = c.args in
    ap (λ (d : Datom). bound_of (Some d)) c.datom_at.ensures ∙ bound_at_datom a.k a.i a.part.now a.upper c.if-i-k.true

pub returns : goal.returns
returns c = let a = c.args in bound_past a.k a.i a.part.now a.upper c.if-i-k.false
