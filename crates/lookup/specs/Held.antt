-- One datom of a batch that is asked for.
use Rattle.std.specs.Prelude.{ℕ, ◌+◌, ◌≤◌, List, ◌∷◌, ◌≡◌, drop, true, false, Ok}
use Rattle.std.proofs.Math.Numerals.{add-one}
use Rattle.std.proofs.Math.Path.{refl, ap}
use Rattle.store.specs.declared.PageId.{PageId}
use Rattle.store.specs.Laws.{apart}
use Rattle.store.specs.Cells.{cells_end}
use Rattle.datom.specs.declared.Datom.{Datom}
use Rattle.datom.specs.Datom.{datom_of, datoms_of}
use Rattle.answer.specs.declared.Fault.{Fault}
use Rattle.answer.specs.declared.Damage.{Damage}
use Rattle.answer.specs.declared.Refusal.TheVariants.{Damaged, NotHeld}
use Rattle.rules.specs.Tree.{Fetched, Env}
use Rattle.rules.specs.Lookup as rules
use Rattle.rules.specs.Lookup.{clear, found, lookup}
use Rattle.rules.specs.Held.{after_held, held_all}
use Rattle.lookup.specs.Look.{damage, lost_at, look_of}

-- what follows a path
module _ (i : ℕ) (q : rules.Finding) where
  after_met : (o : rules.Look) → Ok true ≡ look_of o → after_held i o q ≡ q
  unfolding after_held look_of
  after_met (rules.met p j) h = refl
  after_met (rules.absent p) h = absurd (apart (cc))
  after_met (rules.lost p f) h = absurd (apart (cc))

  after_absent : (o : rules.Look) → Ok false ≡ look_of o → after_held i o q ≡ found (NotHeld i)
  unfolding after_held look_of
  after_absent (rules.met p j) h = absurd (apart (cc))
  after_absent (rules.absent p) h = refl
  after_absent (rules.lost p f) h = absurd (apart (cc))

  after_lost : (c : PageId) (g : Fault) (o : rules.Look) → lost_at c g ≡ look_of o → after_held i o q ≡ found (Damaged c g)
  unfolding after_held look_of
  after_lost c g (rules.met p j) h = absurd (apart (cc))
  after_lost c g (rules.absent p) h = absurd (apart (cc))
  after_lost c g (rules.lost p f) h = let e : damage c g ≡ damage p f = cc in rw (ap (λ (d : Damage). d.page) e, ap (λ (d : Damage). d.fault) e)

module _ (e : Env) (l : ℕ) (root : PageId) (r : Fetched) (i : ℕ) where
  module _ {ds : List Datom} {d : Datom} {rest : List Datom} (at : ds ≡ d ∷ rest) where
    pub held_on : Ok true ≡ look_of (lookup e d l root r) → held_all e l root r (i + 1) rest ≡ held_all e l root r i ds
    unfolding held_all
    held_on h = rw (at, held_all, add-one, after_met i _ (lookup e d l root r) h)

    pub held_absent : Ok false ≡ look_of (lookup e d l root r) → held_all e l root r i ds ≡ found (NotHeld i)
    unfolding held_all
    held_absent h = rw (at, held_all) (after_absent i _ (lookup e d l root r) h)

    pub held_lost : (c : PageId) (f : Fault) → lost_at c f ≡ look_of (lookup e d l root r) → held_all e l root r i ds ≡ found (Damaged c f)
    unfolding held_all
    held_lost c f h = rw (at, held_all) (after_lost i _ c f (lookup e d l root r) h)

  pub held_end : (n : ℕ) (b : List ℕ) → n ≤ i → held_all e l root r i (drop i (datoms_of n b)) ≡ clear
  unfolding held_all
  held_end n b h = rw (cells_end datom_of 32 n i b h)
