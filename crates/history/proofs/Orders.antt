-- The same datoms in three stores, each with an order of its own: what is handed out are three sorts of one set. Rests on Example and on the
-- rules, computed.
use Rattle.std.specs.Prelude.{ℕ, [], ◌∷◌, refl}
use Rattle.std.proofs.Common.{arith, inl}
use Rattle.store.specs.declared.StoreRecord.{StoreRecord}
use Rattle.store.specs.Words.{zeros}
use Rattle.datom.specs.declared.Datom.{Datom}
use Rattle.index.specs.declared.Index.{Index}
use Rattle.index.specs.declared.Index.TheVariants.{Eavt, Aevt, Avet}
use Rattle.index.specs.Order.{order_in}
use Rattle.index.specs.Numbers.{index_number}
use Rattle.rules.specs.Recorded.{order_known_law}
use Rattle.rules.specs.Open.{rules}
use Rattle.history.specs.Statement.{Known, Moment, no_root, Start, beginning, after, calls, now, next, History, HandsOut}
use Rattle.history.specs.Sort.{within}
use Rattle.history.proofs.Example.{At, no_heap_law, initialising, grown, lent, lists, order_at}

-- a datom of entity, attribute and value
abbrev datom : ℕ → ℕ → ℕ → Datom
datom e a v = record { entity = record { 0 = e }; attribute = record { 0 = a }; value = record { 0 = v }; transaction_operation = record { 0 = 3 } }

abbrev x : Datom
x = datom 1 2 5

abbrev y : Datom
y = datom 2 1 9

abbrev z : Datom
z = datom 3 1 7

abbrev pub no_pages : Index → Start
no_pages i = record { store = zeros 512; heap = []; used = 0; in_good_order = no_heap_law; order = index_number i; known = order_known_law i }

unfoldable pub start : Index → Moment
start i = beginning 256 (no_pages i)

-- initialised with all three
unfoldable pub filled : Index → Moment
filled i = after (start i) (initialising (x ∷ y ∷ z ∷ []))

abbrev pub root : Known
root = grown 0 (x ∷ y ∷ z ∷ []) no_root

abbrev recorded : Index → ℕ → StoreRecord
recorded i count = record { size = 256; count = count; heap = 0; order = index_number i }

at_start : (i : Index) → At (start i) (recorded i 0) [] 512 (no_root ∷ [])
unfolding rules start
at_start i = record { recorded = refl; heap = refl; roots = refl; long = refl }

at_filled : (i : Index) → At (filled i) (recorded i 1) [] 512 (root ∷ no_root ∷ [])
unfolding rules start filled
at_filled Eavt = record { recorded = refl; heap = refl; roots = refl; long = refl }
at_filled Aevt = record { recorded = refl; heap = refl; roots = refl; long = refl }
at_filled Avet = record { recorded = refl; heap = refl; roots = refl; long = refl }

history : (i : Index) → History 256 (filled i)
unfolding start filled
history i =
    (no_pages i, next now (calls (initialising (x ∷ y ∷ z ∷ [])) (record { known = tt; lent = lent (at_start i) (omega arith) (x ∷ y ∷ z ∷ []) })))

-- between bounds that enclose them all, in every order
abbrev lowest : Datom
lowest = datom 0 0 0

abbrev highest : Datom
highest = datom 9 9 0

pub lists_eavt : HandsOut (filled Eavt) root lowest highest (x ∷ y ∷ z ∷ [])
unfolding rules within
lists_eavt =
    lists (inl refl) (history Eavt) root (rw (at_filled Eavt).roots (inl refl)) (order_in Eavt []) (order_at (at_filled Eavt)) lowest highest _ refl refl refl

pub lists_aevt : HandsOut (filled Aevt) root lowest highest (y ∷ z ∷ x ∷ [])
unfolding rules within
lists_aevt =
    lists (inl refl) (history Aevt) root (rw (at_filled Aevt).roots (inl refl)) (order_in Aevt []) (order_at (at_filled Aevt)) lowest highest _ refl refl refl

pub lists_avet : HandsOut (filled Avet) root lowest highest (z ∷ y ∷ x ∷ [])
unfolding rules within
lists_avet =
    lists (inl refl) (history Avet) root (rw (at_filled Avet).roots (inl refl)) (order_in Avet []) (order_at (at_filled Avet)) lowest highest _ refl refl refl
