-- `next_midpoint` meets its contract: the first of each index is the first of the rest of the list. Assumes nothing.
use Rattle.std.proofs.Common.{suc, ◌+◌, ◌-◌, ◌*◌, refl, sym, ◌∙◌, arith, rules, not}
use Rattle.std.proofs.lemmas.Iterator.{YieldsList-from_range, YieldsList-from_map}
use Rattle.std.proofs.lemmas.Iterator.Adapters.{option_map_id}
use Rattle.std.proofs.lemmas.Iterator.Search.{find_from_yields_List}
use Rattle.store.specs.Page.{is_none}
use Rattle.store.specs.Cells.{pages_from}
use Rattle.rules.specs.Page.{child_at, children_of}
use Rattle.memory_store.specs.Steps.{next_each, next_end}
use Rattle.memory_store.proofs.access.next_midpoint.Goals as goal

pub returns : goal.returns
returns c =
    let a = c.args in
    let child = child_at a.m a.s.now in
    let found = find_from_yields_List (λ p. not (is_none p)) _ _ c.find.result c.find.ensures.ran
    (YieldsList-from_map _ child (YieldsList-from_range a.from (a.n + 1) (suc a.n - a.from) c.map.ensures.source (omega arith)) c.map.ensures.closure (λ x r q k. search rules))
    (λ x b q k. search rules) in
    sym (option_map_id c.find.result) ∙ found
    ∙ next_each child (suc a.n) (children_of a.m (suc a.n) a.s.now) (λ i h. pages_from (suc a.n) i (32 * a.m) a.s.now h) (λ i h. next_end (suc a.n) i (32 * a.m) a.s.now h) _ a.from refl
