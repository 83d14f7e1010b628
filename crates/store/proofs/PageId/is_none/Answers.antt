-- `store::PageId::is_none` meets its contract. Assumes nothing.
use mathlib.Core.Path.{refl}
use Rattle.store.specs.Page.{is_none}
use Rattle.store.proofs.PageId.is_none.Goals as goal

pub returns : goal.returns
unfolding is_none
returns c = refl
