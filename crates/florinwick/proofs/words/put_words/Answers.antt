-- `put_words` meets its contract. Assumes nothing.
use Rattle.std.proofs.Common.{◌≡◌, length, rules}
use Rattle.florinwick.specs.Words.{words_put}
use Rattle.florinwick.proofs.words.put_words.Goals as goal

pub returns : goal.returns
returns c =
    let long : length c.args.area.now ≡ 32 = search rules in
    let pre = long in
    rw (c.put_word-4.ensures, c.put_word-3.ensures, c.put_word-2.ensures, c.put_word.ensures) (words_put _ pre _ _ _ _)
