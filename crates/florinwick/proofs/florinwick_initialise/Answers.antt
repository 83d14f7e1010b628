-- `florinwick_initialise` meets its contract on every input. Assumes nothing.
use Rattle.std.proofs.Common.{◌≡◌, length, rules}
use Rattle.rules.specs.Entry.{initialise_reply}
use Rattle.florinwick.specs.Words.{no_area, told_reply}
use Rattle.florinwick.proofs.florinwick_initialise.Goals as goal

pub returns-in_default : goal.returns-in_default
unfolding initialise_reply
returns-in_default c =
    let short : length c.args.area.now ≡ 32 → ⊥ = search rules in
    no_area _ _ _ _ _ short

pub returns : goal.returns
unfolding initialise_reply
returns c =
    let t = rw c.max.ensures at c.tell.ensures in
    let long : length c.args.area.now ≡ 32 = search rules in
    told_reply _ _ _ _ _ _ _ _ _ long (rw c.record_in-stored.ensures at c.initialise-a.ensures) t.0 t.1
