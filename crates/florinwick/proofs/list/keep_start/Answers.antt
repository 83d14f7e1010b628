-- `keep_start` meets its contract. Assumes nothing.
use mathlib.Core.Path.{refl}
use Rattle.florinwick.specs.Listing.{cursor_started}
use Rattle.florinwick.proofs.list.keep_start.Goals as goal

pub returns-in-Ok : goal.returns-in-Ok
unfolding cursor_started
returns-in-Ok c =
    rw c.in-Ok.is (c.plain.ensures, c.put_cursor.ensures)

pub returns-in-Err : goal.returns-in-Err
unfolding cursor_started
returns-in-Err c = rw c.in-Err.is (c.refuse_named.ensures, refl)
