-- `cursor_in` meets its contract. Assumes nothing.
use Rattle.std.proofs.Common.{ℕ, ◌≡◌, ◌-◌, length, take, drop, rules}
use Rattle.store.specs.Words.{little}
use Rattle.store.specs.Page.{page_of}
use Rattle.florinwick.specs.Cursor.{cursor_in, behind}
use Rattle.florinwick.proofs.cursor.cursor_in.Goals as goal

pub returns : goal.returns
unfolding cursor_in little page_of
returns c =
    let s = c.args.s.now in
    let long : length s ≡ 264 = search rules in
    let rest : (n : ℕ) → take (264 - n) (drop n s) ≡ drop n s = λ n. rw (← long) (behind s n) in
    rw (c.eight_in-end_pages.ensures, c.eight_in-end_indices.ensures, c.eight_in-begin_pages.ensures, c.eight_in-begin_indices.ensures, c.word-height.ensures, rest 8, rest 72, rest 136, rest 200)
