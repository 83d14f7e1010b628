-- The store's record as a C program lends it.
use Rattle.std.specs.Prelude.{ℕ, true, cond, List, ◌≡◌, eqb, length}
use Rattle.std.proofs.Common.{eq-eqb, ne_eqb}
use Rattle.store.specs.declared.StoreRecord.{StoreRecord}
use Rattle.store.specs.Words.{word_at}
use Rattle.store.specs.Record.{extent_of}
use Rattle.store.specs.Size.{capacity, capacity_in}
use Rattle.rules.specs.Store.{bad_store}

-- "a lent block of 8-byte little-endian words: page size, page count, heap length .., order (32, from three)". Bytes of another length are
-- taken for a record that every call refuses: no page has size 0
unfoldable pub record_in : List ℕ → StoreRecord
record_in b =
    cond (eqb (length b) 32) (record { size = word_at b 0; count = word_at b 8; heap = word_at b 16; order = word_at b 24 })
    (record { size = 0; count = 0; heap = 0; order = 0 })

pub record_read :
    (b : List ℕ) → length b ≡ 32 → record { size = word_at b 0; count = word_at b 8; heap = word_at b 16; order = word_at b 24 } ≡ record_in b
unfolding record_in
record_read b h = rw (eq-eqb (length b) 32 h)

pub record_none : (b : List ℕ) → (length b ≡ 32 → ⊥) → record { size = 0; count = 0; heap = 0; order = 0 } ≡ record_in b
unfolding record_in
record_none b h = rw (ne_eqb (length b) 32 h)

-- "another length is 1": whatever store is lent with it
pub record_refused : (b s : List ℕ) → (length b ≡ 32 → ⊥) → bad_store (extent_of (record_in b)) s ≡ true
unfolding record_in bad_store capacity capacity_in
record_refused b s h = rw (ne_eqb (length b) 32 h)
