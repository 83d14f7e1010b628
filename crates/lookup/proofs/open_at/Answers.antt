-- `open_at` meets its contract: what stands in the path was read. Assumes nothing.
use Rattle.std.proofs.Common.{sym, ◌∙◌, eqb-true}
use Rattle.lookup.specs.Path.{kept_hit}
use Rattle.lookup.proofs.open_at.Goals as goal

pub returns-then-eq : goal.returns-then-eq
returns-then-eq c =
    let a = c.args in
    kept_hit c.requires.0 a.level c.requires.1 a.page c.requires.2 (eqb-true _ _ (sym c.eq.ensures ∙ c.if-eq.true))
