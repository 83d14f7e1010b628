-- `all_rising` meets its contract: the test of each is the test on the rest of the list. Assumes nothing.
use Rattle.std.proofs.Common.{◌+◌, refl, ◌∙◌, rules}
use Rattle.std.proofs.lemmas.Iterator.{YieldsList-from_range}
use Rattle.std.proofs.lemmas.Iterator.Search.{all_from_yields_List}
use Rattle.index.specs.Order.{ord}
use Rattle.memory_store.specs.Steps.{rises, rising_each}
use Rattle.memory_store.proofs.reader.all_rising.Goals as goal

pub returns : goal.returns
returns c =
    let a = c.args in
    let cmp = (ord a.order).cmp in
    all_from_yields_List (rises cmp a.k a.s.now) _ _ _ c.all.ensures.ran (YieldsList-from_range (a.from + 1) a.k _ refl refl) (λ i b q t. search rules)
    ∙ rising_each cmp a.k a.s.now _ a.from refl
