-- `rule_in` meets its contract. Assumes nothing.
use borrow.Author.Rules.{rules}
use mathlib.Core.Path.{◌≡◌, sym, ◌∙◌, ap}
use Rattle.std.specs.Prelude.{Err, Some, None}
use Rattle.probe.specs.Seen.{shown, rule_of}
use Rattle.probe.proofs.rule_in.Goals as goal

pub returns-in-Err-Some : goal.returns-in-Err-Some
unfolding shown
returns-in-Err-Some c =
    let e : c.look_at.result ≡ Err (Some c.in-Err-Some.rule) = search rules in
    c.number.ensures ∙ ap rule_of (ap (shown c.args.bytes.now) (sym e) ∙ c.look_at.ensures)

pub returns-in-Err-None : goal.returns-in-Err-None
unfolding shown
returns-in-Err-None c =
    let e : c.look_at.result ≡ Err None = search rules in
    ap rule_of (ap (shown c.args.bytes.now) (sym e) ∙ c.look_at.ensures)

pub returns-in-Ok : goal.returns-in-Ok
unfolding shown
returns-in-Ok c = ap rule_of (ap (shown _) (sym c.in-Ok.is) ∙ c.look_at.ensures)
