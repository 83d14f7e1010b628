-- Bounds that may be missing, as the code writes them.
use Rattle.std.specs.Prelude.{Some, None, ℕ, ◌*◌, ◌<◌, ◌≤◌, Bool, true, List, [], ◌∷◌, ◌≡◌, refl, drop}
use Rattle.std.specs.Prelude as rattle
use Rattle.std.proofs.Math.Option.{Option, none as nothing, some}
use Rattle.std.proofs.Common.{sym}
use Rattle.store.specs.Cells.{cells_end}
use Rattle.store.specs.Laws.{apart}
use Rattle.datom.specs.declared.Datom.{Datom}
use Rattle.datom.specs.Datom.{datom_at, datom_of, datoms_of}
use Rattle.datom.specs.Laws.{datoms_from}
use Rattle.index.specs.Order.{DatomOrd, is_less}
use Rattle.rules.specs.Check.{above_lower, below_upper}

abbrev pub Bound : Type 0
Bound = rattle.Option Datom

-- a bound of the code, as the rules write it
unfoldable pub bound_of : Bound → Option Datom
bound_of None = nothing
bound_of (Some d) = some d

-- two bounds that say the same are the same
pub bound_once : (a b : Bound) → bound_of a ≡ bound_of b → a ≡ b
unfolding bound_of
bound_once None None e = refl
bound_once None (Some d) e = absurd (apart (cc))
bound_once (Some d) None e = absurd (apart (cc))
bound_once (Some d) (Some x) e = cc

-- what is above the child in front of the datoms left: the first of them, and past the last the page's upper bound
unfoldable pub bound_at : List Datom → Option Datom → Option Datom
bound_at [] upper = upper
bound_at (d ∷ ds) upper = some d

module _ (t : DatomOrd) (b : Bound) where
  pub above_nothing : (d : Datom) → b ≡ None → true ≡ above_lower t.cmp (bound_of b) d
  unfolding above_lower bound_of
  above_nothing d e = rw e

  pub above_at : (x d : Datom) (v : Bool) → b ≡ Some x → is_less (t.cmp x d) ≡ v → v ≡ above_lower t.cmp (bound_of b) d
  unfolding above_lower bound_of
  above_at x d v e h = rw e (sym h)

  pub below_nothing : (lower : Bound) → b ≡ None → true ≡ below_upper t.cmp (bound_of lower) (bound_of b)
  unfolding below_upper bound_of
  below_nothing lower e = rw e

  pub below_at : (lower : Bound) (y : Datom) → b ≡ Some y → above_lower t.cmp (bound_of lower) y ≡ below_upper t.cmp (bound_of lower) (bound_of b)
  unfolding below_upper bound_of
  below_at lower y e = rw e

module _ (k i : ℕ) (s : List ℕ) (upper : Bound) where
  pub bound_at_datom : i < k → bound_of (Some (datom_at s (32 * i))) ≡ bound_at (drop i (datoms_of k s)) (bound_of upper)
  unfolding bound_of bound_at
  bound_at_datom h = rw (datoms_from k i s h)

  pub bound_past : k ≤ i → bound_of upper ≡ bound_at (drop i (datoms_of k s)) (bound_of upper)
  unfolding bound_at
  bound_past h = rw (cells_end datom_of 32 k i s h)
