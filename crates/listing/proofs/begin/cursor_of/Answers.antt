-- `cursor_of` meets its contract: the used places of both ends. Assumes nothing.
use Rattle.listing.specs.Starts.{cursor_is}
use Rattle.listing.proofs.begin.cursor_of.Goals as goal

pub returns : goal.returns
returns c =
    let a = c.args in
    cursor_is a.height a.begin a.end c.only_used-b.result c.only_used-e.result c.only_used-b.ensures c.only_used-e.ensures
