-- More cases that the rules compute: listings between bounds at new and old roots, the reader's rules one by one, the checks, which page is
-- not written and why, and the four words. Each stands for a sentence of document 01 that no starred example shows.
use Rattle.std.specs.Prelude.{Err, Ok}
use Rattle.answer.specs.Answers.{is_sound, unchecked, unsound_at}
use Prim.Native.Nat.{Ordering}
use Rattle.std.specs.Prelude.{ℕ, List, [], ◌∷◌, ◌++◌, ◌≡◌, refl, replicate, set}
use Rattle.store.specs.declared.PageId.{PageId}
use Rattle.store.specs.declared.Extent.{Extent}
use Rattle.store.specs.declared.StoreRecord.{StoreRecord}
use Rattle.store.specs.Words.{zeros}
use Rattle.store.specs.Page.{page, none}
use Rattle.datom.specs.declared.Datom.{Datom}
use Rattle.answer.specs.declared.Fault.TheVariants.{Missing, Breaks, OutOfBounds}
use Rattle.answer.specs.declared.Rule.TheVariants.{Level, Count, Form, Order, LeafChild, LastChild, ChildId}
use Rattle.answer.specs.declared.Refusal.TheVariants.{BadStore, NoPage, Damaged, TooTall, NoRoom, BadOrder}
use Rattle.rules.specs.Page.{Node, Read, broken, good, read_page, encode_page}
use Rattle.rules.specs.Tree.{faulty, Env, stop, go, put}
use Rattle.rules.specs.Insert.{insert, insert_bytes}
use Rattle.rules.specs.Entry.{insert_reply}
use Rattle.rules.specs.Calls.{insert_bytes_call, check_call}
use Rattle.rules.specs.Listing.{Listed, whole, cut, start_list, listing}
use Rattle.rules.specs.Check.{check_tree}
use Rattle.rules.specs.Table.{d, eavt, run, scratch, Place, calls, small}
use Rattle.rules.specs.Open.{rules}

-- example e: page 3 has d3 and the pending d7 to d11 above d4 to d6
abbrev e : Place
e = calls (run 0 7) (run 7 5 ∷ [])

abbrev listed : ℕ → Datom → Datom → Listed
listed root lo hi = listing eavt e.extent e.store 20 (start_list eavt e.extent e.store (page root) lo hi)

lists_all : listed 3 (d 0) (d 12) ≡ whole (run 0 12)
unfolding rules
lists_all = refl

-- from the lower bound up to but not including the upper
lists_between : listed 3 (d 3) (d 9) ≡ whole (run 3 6)
unfolding rules
lists_between = refl

-- "Lower bound at or above upper .. height 0"
lists_none : listed 3 (d 9) (d 9) ≡ whole []
unfolding rules
lists_none = refl

-- the older root lists what it did
lists_older : listed 2 (d 0) (d 12) ≡ whole (run 0 7)
unfolding rules
lists_older = refl

refused_root : listed 4 (d 0) (d 12) ≡ cut NoPage []
unfolding rules
refused_root = refl

-- the check at a root, at none, and where a leaf stands outside its bounds: d4, the first above the midpoint d3, gets entity 1
checks_sound : check_tree eavt e.extent e.store (page 3) ≡ is_sound
unfolding rules
checks_sound = refl

checks_none : check_tree eavt e.extent e.store none ≡ is_sound
unfolding rules
checks_none = refl

checks_bounds : check_tree eavt e.extent (set e.store 256 1) (page 3) ≡ unsound_at (page 1) OutOfBounds
unfolding rules
checks_bounds = refl

-- a leaf and a page above it, as bytes
abbrev leaf_page : List ℕ
leaf_page = encode_page 256 6 (record { level = 0; datoms = run 5 3; children = replicate 4 none })

abbrev top_page : List PageId → List ℕ
top_page cs = encode_page 256 6 (record { level = 1; datoms = run 3 1; children = cs })

abbrev read : ℕ → List ℕ → Read
read id s = read_page eavt 6 (page id) s

-- "level at most 7" goes before "count at most C"
breaks_level : read 2 (set (set leaf_page 248 8) 249 7) ≡ broken Level
unfolding rules
breaks_level = refl

breaks_count : read 2 (set leaf_page 249 7) ≡ broken Count
unfolding rules
breaks_count = refl

-- the third datom malformed, and the second not above the first: form goes first
breaks_form : read 2 (set (set leaf_page 87 64) 32 1) ≡ broken Form
unfolding rules
breaks_form = refl

breaks_order : read 2 (set leaf_page 32 1) ≡ broken Order
unfolding rules
breaks_order = refl

breaks_leaf : read 2 (set leaf_page 200 0) ≡ broken LeafChild
unfolding rules
breaks_leaf = refl

breaks_last : read 2 (top_page (page 9 ∷ none ∷ [])) ≡ broken LastChild
unfolding rules
breaks_last = refl

breaks_child : read 1 (top_page (page 0 ∷ page 1 ∷ [])) ≡ broken ChildId
unfolding rules
breaks_child = refl

-- "the reader ignores those places"
reads_past : read 2 (set (set leaf_page 180 9) 250 9) ≡ good (record { level = 0; datoms = run 5 3; children = replicate 4 none })
unfolding rules
reads_past = refl

-- an insert names the page and the rule; refused before it writes, it has written none
damaged :
    insert eavt (record { size = 256; count = 1 }) (set leaf_page 249 7 ++ zeros 256) scratch (page 0) (run 9 1)
    ≡ record { answer = Err (Damaged (page 0) (Breaks Count)); pages = [] }
unfolding rules
damaged = refl

-- a node of one child
abbrev over : ℕ → Node
over l = record { level = l; datoms = []; children = page 9 ∷ [] }

-- no page used, and room for so many
abbrev room_for : ℕ → Env
room_for a = record { cap = 6; cmp = λ d x. Ordering.eq; fetch = λ p. faulty Missing; count = 0; allow = a }

-- "8 TooTall: the next page to write has level 8": level 7 is the highest that is written
seven_written : put (room_for 1) (over 7) [] ≡ go (page 0) (over 7 ∷ [])
unfolding put
seven_written = refl

eight_refused : put (room_for 1) (over 8) [] ≡ stop TooTall []
unfolding put
eight_refused = refl

-- "9 NoRoom: the next page to write does not fit"; no page is written with a refusal
full_refused : put (room_for 1) (over 7) (over 6 ∷ []) ≡ stop NoRoom (over 6 ∷ [])
unfolding put
full_refused = refl

-- "8 goes before 9 at the same page"
tall_first : put (room_for 0) (over 8) [] ≡ stop TooTall []
unfolding put
tall_first = refl

-- refusals in the table's order: a bad store goes before bytes that are no datoms and a root that is no page
store_first : insert_bytes eavt (record { size = 257; count = 0 }) [] scratch (page 5) (0 ∷ []) ≡ record { answer = Err BadStore; pages = [] }
unfolding rules
store_first = refl

-- a record with an empty heap
abbrev record_of : Extent → StoreRecord
record_of x = record { size = x.size; count = x.count; heap = 0; order = 0 }

-- document 02, Three: "13 BadOrder for an unknown order number, straight after 1", so behind a page size that is unknown and scratch that
-- is too short, and before a batch of one byte and a root that is no page
abbrev unordered : ℕ → StoreRecord
unordered size = record { size = size; count = 0; heap = 0; order = 3 }

bad_size_first : check_call (unordered 257) [] [] (page 5) ≡ unchecked BadStore
unfolding rules
bad_size_first = refl

scratch_first : insert_bytes_call (unordered 256) [] [] 7 (page 5) (0 ∷ []) ≡ record { answer = Err BadStore; pages = [] }
unfolding rules
scratch_first = refl

order_before_batch : insert_bytes_call (unordered 256) [] [] scratch (page 5) (0 ∷ []) ≡ record { answer = Err BadOrder; pages = [] }
unfolding rules
order_before_batch = refl

order_before_root : check_call (unordered 256) [] [] (page 5) ≡ unchecked BadOrder
unfolding rules
order_before_root = refl

-- four words: 6, the given root, 0 pages, index 0, of d7 sent again after example e
words_repeated :
    (insert_reply (record_of e.extent) e.store [] scratch (page 3) (small 7 ++ (small 1 ++ (small 7 ++ small 3))) (zeros 32)).area ≡ small 6 ++ (small 3 ++ zeros 16)
unfolding rules
words_repeated = refl

-- "An area not 32 bytes long is 1 before all else and stays unchanged.": the batch of one byte would be 2, and the store stays
area_first : (insert_reply (record_of e.extent) e.store [] scratch (page 3) (0 ∷ []) (zeros 31)).returns ≡ 1
unfolding rules
area_first = refl

area_stays : (insert_reply (record_of e.extent) e.store [] scratch (page 3) [] (zeros 33)).area ≡ zeros 33
unfolding rules
area_stays = refl
