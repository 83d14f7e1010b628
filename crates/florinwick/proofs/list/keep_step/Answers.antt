-- `keep_step` meets its contract. Assumes nothing.
use borrow.Author.Rules.{rules}
use Rattle.std.proofs.Common.{refl, ◌≡◌}
use Rattle.answer.specs.Answers.{yielding, ended_step}
use Rattle.florinwick.specs.Listing.{cursor_stepped, datom_stepped, datom_told}
use Rattle.florinwick.proofs.list.keep_step.Goals as goal

pub returns-in-Ok-Some : goal.returns-in-Ok-Some
unfolding cursor_stepped datom_stepped
returns-in-Ok-Some c =
    let e : c.args.stepped.answer ≡ yielding c.in-Ok-Some.d = search rules in
    rw e (c.plain.ensures, (c.put_cursor.ensures, datom_told _ _ c.put_words.ensures))

pub returns-in-Ok-None : goal.returns-in-Ok-None
unfolding cursor_stepped datom_stepped
returns-in-Ok-None c =
    let e : c.args.stepped.answer ≡ ended_step = search rules in
    rw e (c.plain-in-Ok-None.ensures, (refl, refl))

pub returns-in-Err : goal.returns-in-Err
unfolding cursor_stepped datom_stepped
returns-in-Err c = rw c.in-Err.is (c.refuse_named.ensures, (refl, refl))
