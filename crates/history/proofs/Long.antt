-- A history with a long value (document 02, Two): nine bytes are appended to the heap, and a datom that names them is inserted; the same
-- bytes are appended once more, and a datom that names the other offset is Repeated(0); the heap's slice gets shorter, and an append finds
-- no room. The root lists the word that was inserted. Rests on Example and on the rules, computed.
use Rattle.std.specs.Prelude.{Err}
use Rattle.std.specs.Prelude.{ℕ, false, List, [], ◌∷◌, ◌++◌, ◌≡◌, refl, take}
use Rattle.std.proofs.Common.{arith, inl}
use Rattle.store.specs.declared.StoreRecord.{StoreRecord}
use Rattle.store.specs.Words.{zeros}
use Rattle.datom.specs.declared.Datom.{Datom}
use Rattle.datom.specs.Datom.{datoms_bytes}
use Rattle.index.specs.declared.Index.TheVariants.{Eavt}
use Rattle.index.specs.Order.{DatomOrd, order_in}
use Rattle.answer.specs.declared.Refusal.TheVariants.{Repeated, HeapFull}
use Rattle.rules.specs.Append.{bad_heap, bytes_tag, naming}
use Rattle.rules.specs.Table.{d}
use Rattle.rules.specs.Recorded.{order_known_law}
use Rattle.rules.specs.Open.{rules}
use Rattle.history.specs.Statement.{Known, Moment, no_root, Start, beginning, outcome_of, after, Constant, text, appending, appended, appends, others, Later, now, next, History, HandsOut}
use Rattle.history.specs.Sort.{within}
use Rattle.history.proofs.Example.{inserting, grown, At, order_at, lent, then_inserted, lists, one_formed, shared_again}

-- the bytes 1 to 9, and the constant: "its length word, its bytes, and zeros to a multiple of 8"
abbrev pub nine : Constant
nine = text (1 ∷ 2 ∷ 3 ∷ 4 ∷ 5 ∷ 6 ∷ 7 ∷ 8 ∷ 9 ∷ [])

abbrev pub constant : List ℕ
constant =
    9 ∷ 0 ∷ 0 ∷ 0 ∷ 0 ∷ 0 ∷ 0 ∷ 0 ∷ 1 ∷ 2 ∷ 3 ∷ 4 ∷ 5 ∷ 6 ∷ 7 ∷ 8 ∷ 9 ∷ 0 ∷ 0 ∷ 0 ∷ 0 ∷ 0 ∷ 0 ∷ 0 ∷ []

-- a datom that names the bytes at an offset
abbrev pub long : ℕ → Datom
long o = record { entity = record { 0 = 7 }; attribute = record { 0 = 1 }; value = naming bytes_tag o; transaction_operation = record { 0 = 3 } }

-- 256-byte pages, room for four of them, and a heap of 64 bytes with none in use
pub none_used : bad_heap 0 (zeros 64) ≡ false
unfolding bad_heap
none_used = refl

abbrev pub unused : Start
unused = record { store = zeros 1024; heap = zeros 64; used = 0; in_good_order = none_used; order = 0; known = order_known_law Eavt }

unfoldable pub start : Moment
start = beginning 256 unused

abbrev pub root : Known
root = grown 0 (long 0 ∷ []) no_root

unfoldable pub after_one : Moment
after_one = appended start nine

unfoldable pub after_two : Moment
after_two = after after_one (inserting no_root (long 0 ∷ []))

unfoldable pub after_three : Moment
after_three = appended after_two nine

unfoldable pub after_four : Moment
after_four = after after_three (inserting root (long 24 ∷ []))

-- somebody cares for nothing past the heap's length, and lends no more
unfoldable pub shorter : Moment
shorter = record { recorded = after_four.recorded; store = after_four.store; heap = constant ++ constant; roots = after_four.roots }

unfoldable pub after_five : Moment
after_five = appended shorter nine

-- pages of 256 bytes, and bytes of the heap in use
abbrev used : ℕ → ℕ → StoreRecord
used count n = record { size = 256; count = count; heap = n; order = 0 }

at_one : At after_one (used 0 24) (constant ++ zeros 40) 1024 (no_root ∷ [])
unfolding rules start after_one
at_one = record { recorded = refl; heap = refl; roots = refl; long = refl }

at_two : At after_two (used 1 24) (constant ++ zeros 40) 1024 (root ∷ no_root ∷ [])
unfolding rules start after_one after_two
at_two = record { recorded = refl; heap = refl; roots = refl; long = refl }

at_three : At after_three (used 1 48) (constant ++ (constant ++ zeros 16)) 1024 (root ∷ no_root ∷ [])
unfolding rules start after_one after_two after_three
at_three = record { recorded = refl; heap = refl; roots = refl; long = refl }

at_four : At after_four (used 1 48) (constant ++ (constant ++ zeros 16)) 1024 (root ∷ no_root ∷ [])
unfolding rules start after_one after_two after_three after_four
at_four = record { recorded = refl; heap = refl; roots = refl; long = refl }

at_five : At after_five (used 1 48) (constant ++ constant) 1024 (root ∷ no_root ∷ [])
unfolding rules start after_one after_two after_three after_four shorter after_five
at_five = record { recorded = refl; heap = refl; roots = refl; long = refl }

to_two : Later start after_two
unfolding start after_one after_two
to_two = then_inserted no_root (long 0 ∷ []) at_one (omega arith) (inl refl) (next now (appends nine))

to_three : Later start after_three
unfolding after_three
to_three = next to_two (appends nine)

to_five : Later start after_five
unfolding after_four shorter after_five
to_five =
    next (next (then_inserted root (long 24 ∷ []) at_three (omega arith) (inl refl) to_three) (others after_four.store (constant ++ constant) refl same))
    (appends nine)
  where
    same : take after_four.recorded.heap (constant ++ constant) ≡ take after_four.recorded.heap after_four.heap
    same = rw (at_four.recorded, at_four.heap)

pub example : History 256 after_five
unfolding start
example = (unused, to_five)

-- the same content under another offset is an equal datom: it is Repeated by the theorem, and with index 0
abbrev order : DatomOrd
order = order_in Eavt (constant ++ constant)

pub repeated : (i : ℕ) × ((outcome_of after_three (inserting root (long 24 ∷ []))).answer ≡ Err (Repeated i))
unfolding rules start
repeated =
    shared_again (inl refl) (unused, to_three) root (rw at_three.roots (inl refl)) order (order_at at_three) (datoms_bytes (long 24 ∷ [])) (long 24)
    (long 0) 65536 (lent at_three (omega arith) (long 24 ∷ [])) (one_formed order _ (long 24) refl refl refl refl) (rw at_three.recorded) (inl refl)
    (inl refl) refl

pub repeated_first : (outcome_of after_three (inserting root (long 24 ∷ []))).answer ≡ Err (Repeated 0)
unfolding rules start after_one after_two after_three
repeated_first = refl

pub heap_full_law : (appending shorter nine).answer ≡ Err HeapFull
unfolding rules start after_one after_two after_three after_four shorter
heap_full_law = refl

-- the word that was inserted is handed out, whatever is appended after it
pub lists_two : HandsOut after_two root (d 0) (d 13) (long 0 ∷ [])
unfolding rules within start
lists_two =
    lists (inl refl) (unused, to_two) root (rw at_two.roots (inl refl)) (order_in Eavt constant) (order_at at_two) (d 0) (d 13) (long 0 ∷ []) refl refl
    refl

-- also from a bound that names the other offset
pub lists_five : HandsOut after_five root (long 24) (d 13) (long 0 ∷ [])
unfolding rules within
lists_five =
    lists (inl refl) example root (rw at_five.roots (inl refl)) order (order_at at_five) (long 24) (d 13) (long 0 ∷ []) refl refl refl
