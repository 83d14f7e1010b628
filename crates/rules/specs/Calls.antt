-- The calls, of the store's record and what is lent with it: store, then heap. The record's own refusals come first, and the order of the
-- tree is the one that the record names, by the heap in use.
use Rattle.std.specs.Prelude.{Ok}
use Rattle.std.specs.Prelude.{Err}
use Rattle.answer.specs.Answers.{Answer, Append, Check, Held, done_with, stored_as, unchecked}
use Rattle.std.specs.Prelude.{ℕ, ◌+◌, Bool, true, false, ◌||◌, List, take}
use Rattle.store.specs.declared.PageId.{PageId}
use Rattle.store.specs.declared.StoreRecord.{StoreRecord}
pub use Rattle.store.specs.Record.{extent_of}
use Rattle.datom.specs.declared.Datom.{Datom}
use Rattle.index.specs.declared.Index.{Index}
use Rattle.index.specs.declared.Index.TheVariants.{Eavt}
use Rattle.std.specs.Prelude.{Option, Some, None}
use Rattle.index.specs.Order.{DatomOrd, index_of, order_in}
use Rattle.answer.specs.declared.Refusal.TheVariants.{BadStore, BadOrder}
use Rattle.answer.specs.declared.Cursor.{Cursor}
use Rattle.answer.specs.declared.Started.{Started}
use Rattle.answer.specs.declared.Stepped.{Stepped}
use Rattle.rules.specs.Lookup.{Finding, found}
use Rattle.rules.specs.Store.{refuse_if, or_else, bad_store, bad_scratch}
use Rattle.rules.specs.Append.{bad_heap}
use Rattle.rules.specs.Insert.{Outcome, refuse, insert, initialise, insert_bytes, initialise_bytes}
use Rattle.rules.specs.Held.{held_bytes}
use Rattle.rules.specs.Listing.{refuse_start, refuse_step, start_list, step_list}
use Rattle.rules.specs.Check.{check_tree}

-- the bytes of the heap below its length
abbrev pub used_heap : StoreRecord → List ℕ → List ℕ
used_heap r h = take r.heap h

-- the order that the record names; an unknown one is refused before a datom is compared, so what stands for it here decides nothing
abbrev pub is_unknown : Option Index → Bool
is_unknown (Some i) = false
is_unknown None = true

abbrev pub index_in : Option Index → Index
index_in (Some i) = i
index_in None = Eavt

abbrev pub order_for : StoreRecord → Index
order_for r = index_in (index_of r.order)

abbrev pub ord_of : StoreRecord → List ℕ → DatomOrd
ord_of r h = order_in (order_for r) (used_heap r h)

-- the record's own refusals, before all else of a call: 1 for pages or scratch, "also when the heap length passes its slice or is no
-- multiple of 8"; document 02, Three: "13 BadOrder for an unknown order number, straight after 1"
unfoldable pub record_fault : StoreRecord → List ℕ → Bool → Finding
record_fault r h bad =
    or_else found (refuse_if (bad_heap r.heap h || bad) BadStore)
    (refuse_if (is_unknown (index_of r.order)) BadOrder)

-- what is bad of pages and scratch, where a call takes it
abbrev pub bad_pages : StoreRecord → List ℕ → Bool
bad_pages r s = bad_store (extent_of r) s

abbrev pub bad_room : StoreRecord → List ℕ → ℕ → Bool
bad_room r s scratch = bad_store (extent_of r) s || bad_scratch (extent_of r) scratch

-- the record that the next call is handed: more pages after an insert or an initialise, more of the heap after an append
abbrev pub record_after : StoreRecord → Answer → StoreRecord
record_after r (Ok d) = record { size = r.size; count = r.count + d.pages; heap = r.heap; order = r.order }
record_after r (Err f) = r

abbrev pub record_grown : StoreRecord → Append → StoreRecord
record_grown r (Ok s) = record { size = r.size; count = r.count; heap = r.heap + s.bytes; order = r.order }
record_grown r (Err f) = r

-- an insert and an initialise of datoms, and of bytes
unfoldable pub insert_call : StoreRecord → List ℕ → List ℕ → ℕ → PageId → List Datom → Outcome
insert_call r s h scratch root ds = or_else refuse (record_fault r h (bad_room r s scratch)) (insert (ord_of r h) (extent_of r) s scratch root ds)

unfoldable pub initialise_call : StoreRecord → List ℕ → List ℕ → ℕ → List Datom → Outcome
initialise_call r s h scratch ds = or_else refuse (record_fault r h (bad_room r s scratch)) (initialise (ord_of r h) (extent_of r) s scratch ds)

unfoldable pub insert_bytes_call : StoreRecord → List ℕ → List ℕ → ℕ → PageId → List ℕ → Outcome
insert_bytes_call r s h scratch root b = or_else refuse (record_fault r h (bad_room r s scratch)) (insert_bytes (ord_of r h) (extent_of r) s scratch root b)

unfoldable pub initialise_bytes_call : StoreRecord → List ℕ → List ℕ → ℕ → List ℕ → Outcome
initialise_bytes_call r s h scratch b = or_else refuse (record_fault r h (bad_room r s scratch)) (initialise_bytes (ord_of r h) (extent_of r) s scratch b)

-- whether a tree holds a batch
unfoldable pub held_call : StoreRecord → List ℕ → List ℕ → PageId → List ℕ → Held
held_call r s h root b = or_else Err (record_fault r h (bad_pages r s)) (held_bytes (ord_of r h) (extent_of r) s root b)

-- a listing, and a step of it
unfoldable pub start_call : StoreRecord → List ℕ → List ℕ → PageId → Datom → Datom → Started
start_call r s h root lo hi = or_else refuse_start (record_fault r h (bad_pages r s)) (start_list (ord_of r h) (extent_of r) s root lo hi)

unfoldable pub step_call : StoreRecord → List ℕ → List ℕ → Cursor → Stepped
step_call r s h c = or_else (refuse_step c) (record_fault r h (bad_pages r s)) (step_list (ord_of r h) (extent_of r) s c)

-- the check of a tree
unfoldable pub check_call : StoreRecord → List ℕ → List ℕ → PageId → Check
check_call r s h root = or_else unchecked (record_fault r h (bad_pages r s)) (check_tree (ord_of r h) (extent_of r) s root)
