-- `put_cursor` meets its contract: five stores behind one another. Assumes nothing.
use mathlib.Core.Path.{◌≡◌}
use lib.ListN.{length}
use Rattle.store.specs.Words.{bytes_of}
use Rattle.store.specs.Page.{page_bytes}
use Rattle.florinwick.specs.Cursor.{cursor_put}
use borrow.Author.Rules.{rules}
use Rattle.florinwick.proofs.cursor.put_cursor.Goals as goal

pub returns : goal.returns
unfolding bytes_of page_bytes
returns c =
    let a = c.args in
    let long : length a.s.now ≡ 264 = search rules in
    let bp : length a.cursor.begin_pages ≡ 8 = search rules in
    let ep : length a.cursor.end_pages ≡ 8 = search rules in
    let bi : length a.cursor.begin_indices ≡ 8 = search rules in
    let ei : length a.cursor.end_indices ≡ 8 = search rules in
    rw (c.put_eight-4.ensures, c.put_eight-3.ensures, c.put_eight-2.ensures, c.put_eight.ensures, c.put_word.ensures)
    (cursor_put a.cursor bi bp ei
    ep a.s.now long)
