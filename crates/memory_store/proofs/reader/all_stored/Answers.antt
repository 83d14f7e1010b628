-- `all_stored` meets its contract: the test of each is the test on the rest of the list. Assumes nothing.
use Rattle.std.proofs.Common.{◌*◌, sym, refl, ◌∙◌, rules}
use Rattle.std.proofs.lemmas.Iterator.{YieldsList-from_range}
use Rattle.std.proofs.lemmas.Iterator.Search.{all_from_yields_List}
use Rattle.datom.specs.Datom.{datom_at, datom_of, datoms_of, stored_datom}
use Rattle.datom.specs.Laws.{datoms_from}
use Rattle.memory_store.specs.Steps.{all_each, all_end, stored_word}
use Rattle.memory_store.proofs.reader.all_stored.Goals as goal

pub returns : goal.returns
returns c =
    let a = c.args in
    let ok = stored_datom a.heap.now in
    all_from_yields_List (λ i. ok (datom_at a.s.now (32 * i))) _ _ _ c.all.ensures.ran (YieldsList-from_range a.from a.k _ refl refl) (λ i b q t. (search rules, sym (stored_word a.heap.now a.s.now (32 * i) b (search rules))))
    ∙ all_each ok (λ i. datom_at a.s.now (32 * i)) a.k (datoms_of a.k a.s.now) (λ i h. datoms_from a.k i a.s.now h) (λ i h. all_end ok datom_of 32 a.k i a.s.now h) _ a.from refl
