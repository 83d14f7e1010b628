-- `is_bad` meets its contract: dividing the length answers what the product asks. Assumes nothing.
use Rattle.std.proofs.Common.{◌≡◌, length, sym, ◌∙◌, arith, eq-eqb, ne_eqb}
use Rattle.store.specs.Size.{capacity}
use Rattle.store.specs.Laws.{known_size}
use Rattle.rules.specs.Store.{bad_store}
use Rattle.memory_store.specs.FetchLaws.{by_room}
use Rattle.memory_store.proofs.is_bad.Goals as goal

pub returns-then-capacity_of-eq0 : goal.returns-then-capacity_of-eq0
unfolding bad_store
returns-then-capacity_of-eq0 c = rw (eq-eqb _ _ (sym c.capacity_of.ensures ∙ c.if-capacity_of-eq0.true))

pub nonzero_div-room : goal.nonzero_div-room
nonzero_div-room c = omega (arith, (known_size _ (λ e. c.if-capacity_of-eq0.false (c.capacity_of.ensures ∙ e))).fits)

pub returns : goal.returns
unfolding bad_store
returns c =
    let a = c.args in
    let k : capacity a.extent.size ≡ 0 → ⊥ = λ e. c.if-capacity_of-eq0.false (c.capacity_of.ensures ∙ e) in
    rw (ne_eqb _ _ k) (by_room a.extent.size a.extent.count (length a.store.now) (omega (arith, (known_size _ k).fits)))
