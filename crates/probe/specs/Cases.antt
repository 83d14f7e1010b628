-- What the rules answer to the inputs of docs/DIFFERENCES.md, and where document 01 has a sentence that no starred example shows.
use Rattle.std.specs.Prelude.{Err}
use Rattle.answer.specs.Answers.{Answer, Check, Held, all_held, done_with, ended_step, is_sound, unchecked, unsound_at, yielding}
use Rattle.std.specs.Prelude.{ℕ, ◌+◌, true, cond, List, [], ◌∷◌, ◌++◌, map, ◌≡◌, refl, eqb, leb, take, set}
use Rattle.store.specs.declared.PageId.{PageId}
use Rattle.store.specs.declared.StoreRecord.{StoreRecord}
use Rattle.store.specs.Words.{zeros}
use Rattle.store.specs.Size.{sizes, capacity, scratch_need}
use Rattle.store.specs.Page.{page, none}
use Rattle.datom.specs.declared.Datom.{Datom}
use Rattle.datom.specs.Datom.{datoms_bytes}
use Rattle.answer.specs.declared.Rule.TheVariants.{Level, Count, Form, Order, LeafChild, LastChild, ChildId}
use Rattle.answer.specs.declared.Fault.TheVariants.{Breaks, Missing, WrongLevel, EqualDatoms, OutOfBounds, PastCount, TooHigh, NothingLeft}
use Rattle.answer.specs.declared.Refusal.TheVariants.{BadStore, TooMany, BadDatom, BadConstant, OutOfOrder, NoPage, Repeated, Damaged, TooTall, NoRoom, BadBound, NotHeld}
use Rattle.answer.specs.declared.Cursor.{Cursor}
use Rattle.answer.specs.declared.Stepped.{Stepped}
use Rattle.answer.specs.Names.{fault_number, faults}
use Rattle.answer.specs.Table.{named_answer, step_words, check_words}
use Rattle.rules.specs.Page.{Node}
use Rattle.rules.specs.Tree.{stop, put}
use Rattle.rules.specs.Store.{bad_store, env_of, store_after}
use Rattle.rules.specs.Insert.{Outcome, leaf_of, insert, initialise, insert_bytes}
use Rattle.rules.specs.Listing.{eight, Listed, whole, cut, start_list, step_list, listing}
use Rattle.rules.specs.Check.{check_tree}
use Rattle.rules.specs.Held.{held_bytes}
use Rattle.rules.specs.Calls.{insert_call, initialise_call, held_call, start_call, step_call, check_call}
use Rattle.rules.specs.Entry.{insert_reply, insert_named_reply}
use Rattle.rules.specs.Table.{eavt, d, run, scratch, Place, went, calls, small}
use Rattle.rules.specs.Open.{rules}

-- a datom with entity and attribute 0
abbrev valued : ℕ → Datom
valued v = record { entity = record { 0 = 0 }; attribute = record { 0 = 0 }; value = record { 0 = v }; transaction_operation = record { 0 = 0 } }

-- a datom above d(0) and below d(1)
abbrev keyed : Datom
keyed = record { entity = record { 0 = 0 }; attribute = record { 0 = 2 }; value = record { 0 = 0 }; transaction_operation = record { 0 = 3 } }

-- an initialise of an empty store with room for n pages
abbrev fresh : ℕ → List Datom → Outcome
fresh n ds = initialise eavt (record { size = 256; count = 0 }) (zeros n) scratch ds

abbrev initialised : List Datom → Answer
initialised ds = (fresh 2048 ds).answer

-- calls at a place where calls have come to
abbrev inserted : Place → PageId → List Datom → Answer
inserted p root ds = (insert eavt p.extent p.store scratch root ds).answer

abbrev listed : Place → PageId → Datom → Datom → Listed
listed p root lo hi = listing eavt p.extent p.store 20 (start_list eavt p.extent p.store root lo hi)

abbrev checked : Place → PageId → Check
checked p root = check_tree eavt p.extent p.store root

abbrev asked : Place → PageId → List Datom → Held
asked p root ds = held_bytes eavt p.extent p.store root (datoms_bytes ds)

-- a byte of the store set
abbrev poked : Place → ℕ → ℕ → Place
poked p at b = record { extent = p.extent; store = set p.store at b; root = p.root; answer = p.answer }

abbrev c : Place
c = calls (run 0 7) []

-- 3: malformed values, and max; since document 02, Two, an external value is formed, and its constant is asked for after that
stores_no_external : initialised (valued 0x4000_0000_0000_0000 ∷ []) ≡ Err (BadConstant 0)
unfolding rules
stores_no_external = refl

stores_no_long_string : initialised (valued 0x8000_0000_0000_0000 ∷ valued 0x8000_0000_0000_0061 ∷ []) ≡ Err (BadDatom 1)
unfolding rules
stores_no_long_string = refl

stores_no_max : initialised (valued 0xffff_ffff_ffff_ffff ∷ []) ≡ Err (BadDatom 0)
unfolding rules
stores_no_max = refl

-- 4: a page that is not readable
level_damaged : inserted (poked c 760 8) (page 2) [] ≡ Err (Damaged (page 2) (Breaks Level))
unfolding rules
level_damaged = refl

level_unsound : checked (poked c 760 8) (page 2) ≡ unsound_at (page 2) (Breaks Level)
unfolding rules
level_unsound = refl

order_damaged : listed (poked c 0 9) (page 2) (d 0) (d 99) ≡ cut (Damaged (page 0) (Breaks Order)) []
unfolding rules
order_damaged = refl

-- its last child is page 9: the page that names it is at fault
child_unsound : checked (poked c 712 9) (page 2) ≡ unsound_at (page 2) (Breaks ChildId)
unfolding rules
child_unsound = refl

-- 5: root none
inserts_at_none : inserted (calls [] []) none (run 0 7) ≡ done_with (page 2) 3
unfolding rules
inserts_at_none = refl

inserts_nothing_at_none : inserted (calls [] []) none [] ≡ done_with none 0
unfolding rules
inserts_nothing_at_none = refl

-- after insert's own checks
checks_at_none : inserted (calls [] []) none (d 1 ∷ d 0 ∷ []) ≡ Err (OutOfOrder 1)
unfolding rules
checks_at_none = refl

lists_at_none : listed c none (d 0) (d 9) ≡ whole []
unfolding rules
lists_at_none = refl

-- 6: a repeat that no merged page shows, and one that comes second
repeats_below : inserted c (page 2) (d 0 ∷ []) ≡ Err (Repeated 0)
unfolding rules
repeats_below = refl

repeats_second : inserted c (page 2) (valued 0 ∷ d 6 ∷ []) ≡ Err (Repeated 1)
unfolding rules
repeats_second = refl

-- 7: a lower bound above the upper
lists_backwards : listed c (page 2) (d 5) (d 3) ≡ whole []
unfolding rules
lists_backwards = refl

-- 8: equal datoms, by their indices in the batch as given
equal_refused : initialised (d 0 ∷ d 0 ∷ []) ≡ Err (OutOfOrder 1)
unfolding rules
equal_refused = refl

equal_later : initialised (d 4 ∷ d 1 ∷ d 0 ∷ d 1 ∷ []) ≡ Err (OutOfOrder 3)
unfolding rules
equal_later = refl

-- "Initialise sorts its batch first"
sorts : (fresh 2048 (d 2 ∷ d 0 ∷ d 1 ∷ [])).pages ≡ leaf_of (run 0 3) ∷ []
unfolding rules
sorts = refl

-- 9: an insert that does not increase
falls : inserted c (page 2) (d 9 ∷ d 8 ∷ []) ≡ Err (OutOfOrder 1)
unfolding rules
falls = refl

stays : inserted c (page 2) (d 8 ∷ d 8 ∷ []) ≡ Err (OutOfOrder 1)
unfolding rules
stays = refl

-- 10: more than 128 datoms, by either call
many_initialised : initialised (run 0 129) ≡ Err TooMany
unfolding rules
many_initialised = refl

many_inserted : inserted c (page 2) (run 7 129) ≡ Err TooMany
unfolding rules
many_inserted = refl

-- 11: page 5 of level 1 has page 2, of level 1, for a child
abbrev crossed : Place
crossed = poked (went c.extent c.store none (insert eavt c.extent c.store scratch none (run 20 7))) 1472 2

level_lost : inserted crossed (page 5) (d 7 ∷ []) ≡ Err (Damaged (page 2) WrongLevel)
unfolding rules
level_lost = refl

level_unlisted : listed crossed (page 5) (d 0) (d 20) ≡ cut (Damaged (page 2) WrongLevel) []
unfolding rules
level_unlisted = refl

level_wrong : checked crossed (page 5) ≡ unsound_at (page 2) WrongLevel
unfolding rules
level_wrong = refl

-- 12: level 8 goes before a lack of room, and level 7 does not
abbrev of_level : ℕ → Node
of_level l = record { level = l; datoms = []; children = page 0 ∷ [] }

too_tall : put (env_of eavt (record { size = 256; count = 1 }) (zeros 256)) (of_level 8) [] ≡ stop TooTall []
unfolding rules
too_tall = refl

no_room : put (env_of eavt (record { size = 256; count = 1 }) (zeros 511)) (of_level 7) [] ≡ stop NoRoom []
unfolding rules
no_room = refl

-- 13: a malformed bound; max is none
bad_bound : listed c (page 2) (valued 0x4000_0000_0000_0000) (d 9) ≡ cut BadBound []
unfolding rules
bad_bound = refl

bad_upper : listed c (page 2) (d 0) (valued 0x8000_0000_0000_0061) ≡ cut BadBound []
unfolding rules
bad_upper = refl

max_bound : listed c (page 2) (valued 0xffff_ffff_ffff_ffff) (d 9) ≡ whole (run 0 7)
unfolding rules
max_bound = refl

-- "Starting a listing checks 1, 10, 5, then the bounds' order, then pages.": each where the next one would be given too
abbrev askew : Place
askew = record { extent = record { size = 257; count = 3 }; store = c.store; root = c.root; answer = c.answer }

store_before_bound : listed askew (page 9) (valued 0x4000_0000_0000_0000) (d 9) ≡ cut BadStore []
unfolding rules
store_before_bound = refl

bound_before_root : listed c (page 9) (d 9) (valued 0x4000_0000_0000_0000) ≡ cut BadBound []
unfolding rules
bound_before_root = refl

root_before_order : listed c (page 9) (d 9) (d 0) ≡ cut NoPage []
unfolding rules
root_before_order = refl

order_before_pages : listed (poked c 760 8) (page 2) (d 9) (d 0) ≡ whole []
unfolding rules
order_before_pages = refl

-- 14: a root past the count
no_page_law : inserted c (page 3) (d 7 ∷ []) ≡ Err NoPage
unfolding rules
no_page_law = refl

-- 15: d0 pending in page 3 and in page 0 below it, as the Rust leaves it
abbrev twice : Place
twice =
    record {
      extent = record { size = 256; count = 4 };
      store = store_after c.extent c.store (record { level = 1; datoms = d 0 ∷ d 3 ∷ []; children = none ∷ page 0 ∷ page 1 ∷ [] } ∷ []);
      root = page 3;
      answer = done_with (page 3) 1;
    }

twice_sound : checked twice (page 3) ≡ is_sound
unfolding rules
twice_sound = refl

twice_listed : listed twice (page 3) (d 0) (d 7) ≡ cut (Damaged (page 3) EqualDatoms) []
unfolding rules
twice_listed = refl

-- entity 0 and attribute 2, between d0 and d3
abbrev beside : ℕ → Datom
beside k = record { entity = record { 0 = 0 }; attribute = record { 0 = 2 }; value = record { 0 = k }; transaction_operation = record { 0 = 3 } }

twice_merged : inserted twice (page 3) (beside 0 ∷ beside 1 ∷ beside 2 ∷ beside 3 ∷ beside 4 ∷ []) ≡ Err (Damaged (page 0) EqualDatoms)
unfolding rules
twice_merged = refl

-- 16: page 3 does not rise, and page 0 below it stands outside its bounds
unreadable_first : checked (poked (poked (calls (run 0 7) (run 7 2 ∷ [])) 832 1) 64 9) (page 3) ≡ unsound_at (page 3) (Breaks Order)
unfolding rules
unreadable_first = refl

-- "7, 8 and 9 once writing has begun" come as they are met. d7 to d13 go into page 1, which splits into two; then d0, which page 0 holds,
-- goes into page 0. Room for no page: 9 is met first. Room for four: both pages are written, and then 7 is met.
abbrev spread : ℕ → Outcome
spread n =
    insert eavt twice.extent (take n twice.store) scratch (page 3)
    ((beside 0 ∷ beside 1 ∷ beside 2 ∷ beside 3 ∷ beside 4 ∷ []) ++ run 7 7)

full_before_damaged : spread 1024 ≡ record { answer = Err NoRoom; pages = [] }
unfolding rules
full_before_damaged = refl

damaged_after_writing : spread 2048 ≡ record { answer = Err (Damaged (page 0) EqualDatoms); pages = leaf_of (run 4 5) ∷ leaf_of (run 10 4) ∷ [] }
unfolding rules
damaged_after_writing = refl

-- 17: what was written until the room ended
left_behind : fresh 512 (run 0 7) ≡ record { answer = Err NoRoom; pages = leaf_of (run 0 3) ∷ leaf_of (run 4 3) ∷ [] }
unfolding rules
left_behind = refl

-- made-up cursors over a store of three pages: a leaf of d5, above it d3 pending at level 1, and above that d5 pending at level 2
abbrev tower : List ℕ
tower =
    store_after (record { size = 256; count = 0 }) (zeros 1024)
    (leaf_of (run 5 1) ∷ record { level = 1; datoms = run 3 1; children = none ∷ page 0 ∷ [] }
    ∷ record { level = 2; datoms = run 5 1; children = none ∷ page 1 ∷ [] } ∷ [])

abbrev steps : Cursor → Stepped
steps k = step_list eavt (record { size = 256; count = 3 }) tower k

abbrev pages : ℕ → ℕ → ℕ → List PageId
pages p q r = eight (page 0) (page p ∷ page q ∷ page r ∷ [])

abbrev indices : ℕ → ℕ → ℕ → List ℕ
indices i j k = eight 0 (i ∷ j ∷ k ∷ [])

-- of a height, at the indices and pages of the begin, up to index 1 in each page
abbrev cursor : ℕ → List ℕ → List PageId → Cursor
cursor h is ps =
    record { height = h; begin_indices = is; begin_pages = ps; end_indices = indices 1 1 1; end_pages = pages 0 1 2 }

-- the running smallest from level 0 up: d5, then d3; the two d5 are never compared
least_of_three : steps (cursor 3 (indices 0 0 0) (pages 0 1 2)) ≡ record { answer = yielding (d 3); cursor = cursor 3 (indices 0 1 0) (pages 0 1 2) }
unfolding rules
least_of_three = refl

-- past d3 they meet: "the first equal pair is Damaged, naming the page of the higher level"
equal_pair : steps (cursor 3 (indices 0 1 0) (pages 0 1 2)) ≡ record { answer = Err (Damaged (page 2) EqualDatoms); cursor = cursor 3 (indices 0 1 0) (pages 0 1 2) }
unfolding rules
equal_pair = refl

-- "Only places below the height are used; the others are written as zero."
zeros_past :
    steps (cursor 2 (indices 0 0 7) (pages 0 1 7)) ≡ record {
      answer = yielding (d 3);
      cursor = record {
        height = 2;
        begin_indices = indices 0 1 0;
        begin_pages = pages 0 1 0;
        end_indices = indices 1 1 0;
        end_pages = pages 0 1 0;
      };
    }
unfolding rules
zeros_past = refl

-- "a height over 8 (Damaged, id none), then the end": nine is refused, though no index differs
over_eight : (steps (cursor 9 (indices 1 1 1) (pages 0 1 2))).answer ≡ Err (Damaged none TooHigh)
unfolding rules
over_eight = refl

-- the end goes before the pages, and the cursor stays as it was
ends_first : steps (cursor 3 (indices 1 1 1) (pages 9 9 9)) ≡ record { answer = ended_step; cursor = cursor 3 (indices 1 1 1) (pages 9 9 9) }
unfolding rules
ends_first = refl

ends_flat : steps (cursor 0 (indices 4 4 4) (pages 9 9 9)) ≡ record { answer = ended_step; cursor = cursor 0 (indices 4 4 4) (pages 9 9 9) }
unfolding rules
ends_flat = refl

-- "then the begin pages from the top": page 9 is missing, page 0 has another level, index 2 lies past one datom
page_missing : (steps (cursor 3 (indices 0 0 0) (pages 9 9 2))).answer ≡ Err (Damaged (page 9) Missing)
unfolding rules
page_missing = refl

page_level : (steps (cursor 3 (indices 0 0 0) (pages 9 0 2))).answer ≡ Err (Damaged (page 0) WrongLevel)
unfolding rules
page_level = refl

index_past : (steps (cursor 3 (indices 0 0 2) (pages 9 9 2))).answer ≡ Err (Damaged (page 2) PastCount)
unfolding rules
index_past = refl

-- an index at the count is a page used up; "No candidate left is Damaged, id none."
nothing_left :
    (steps (record {
      height = 1;
      begin_indices = indices 1 0 0;
      begin_pages = pages 0 0 0;
      end_indices = indices 0 0 0;
      end_pages = pages 0 0 0;
    })).answer ≡ Err (Damaged none NothingLeft)
unfolding rules
nothing_left = refl

-- refusals in the table's order. 1: exact arithmetic, where 64 bits would wrap to 0; scratch one byte short, and just enough
counts_exactly : bad_store (record { size = 256; count = 0x0100_0000_0000_0000 }) (zeros 256) ≡ true
unfolding rules
counts_exactly = refl

scratch_short : (insert eavt c.extent c.store 62015 (page 2) []).answer ≡ Err BadStore
unfolding rules
scratch_short = refl

scratch_enough : (insert eavt c.extent c.store 62016 (page 2) []).answer ≡ done_with (page 3) 1
unfolding rules
scratch_enough = refl

scratch_needs : map (λ size. scratch_need (capacity size)) sizes ≡ 62016 ∷ 81728 ∷ 332352 ∷ 619584 ∷ []
unfolding rules
scratch_needs = refl

-- "at most 64 KiB for 256-byte pages, 512 KiB for others"; "Scratch for this size may reach 768 KiB", of 8192 bytes
abbrev allowed : ℕ → ℕ
allowed size = cond (eqb size 256) 65536 (cond (eqb size 8192) 786432 524288)

scratch_within : map (λ size. leb (scratch_need (capacity size)) (allowed size)) sizes ≡ true ∷ true ∷ true ∷ true ∷ []
unfolding rules
scratch_within = refl

-- 2: "or its bytes no multiple of 32"
odd_bytes : (insert_bytes eavt c.extent c.store scratch (page 2) (zeros 33)).answer ≡ Err TooMany
unfolding rules
odd_bytes = refl

-- 2 before 3, 3 before 4, 4 before 5
many_first : inserted c (page 9) (valued 0xffff_ffff_ffff_ffff ∷ run 0 128) ≡ Err TooMany
unfolding rules
many_first = refl

form_first : inserted c (page 9) (d 1 ∷ d 0 ∷ valued 0xffff_ffff_ffff_ffff ∷ []) ≡ Err (BadDatom 2)
unfolding rules
form_first = refl

order_first : inserted c (page 9) (d 1 ∷ d 0 ∷ []) ≡ Err (OutOfOrder 1)
unfolding rules
order_first = refl

-- "6 and 7 come in whichever order they are met": page 1 has a bad count, and then page 0
repeated_before_damaged : inserted (poked c 505 7) (page 2) (d 0 ∷ d 8 ∷ []) ≡ Err (Repeated 0)
unfolding rules
repeated_before_damaged = refl

damaged_before_repeated : inserted (poked c 249 7) (page 2) (valued 0 ∷ d 6 ∷ []) ≡ Err (Damaged (page 0) (Breaks Count))
unfolding rules
damaged_before_repeated = refl

-- document 02, Ten: "if the tree holds all its datoms", "16 NotHeld(i) .. with datom i missing, the first such"
holds_all : asked c (page 2) (run 0 7) ≡ all_held
unfolding rules
holds_all = refl

holds_no_first : asked c (page 2) (valued 0 ∷ d 0 ∷ []) ≡ Err (NotHeld 0)
unfolding rules
holds_no_first = refl

holds_no_third : asked c (page 2) (d 0 ∷ d 3 ∷ d 7 ∷ d 8 ∷ []) ≡ Err (NotHeld 2)
unfolding rules
holds_no_third = refl

-- an insert of the same batch says Repeated: one datom is held, and it does not say that the others are
repeated_not_held : inserted c (page 2) (d 0 ∷ d 3 ∷ d 7 ∷ d 8 ∷ []) ≡ Err (Repeated 0)
unfolding rules
repeated_not_held = refl

-- an empty batch is held at every root, and no page is read for it: page 2 has level 8
empty_at_none : asked c none [] ≡ all_held
unfolding rules
empty_at_none = refl

empty_reads_nothing : asked (poked c 760 8) (page 2) [] ≡ all_held
unfolding rules
empty_reads_nothing = refl

-- root "none" holds nothing
none_holds_nothing : asked c none (d 0 ∷ []) ≡ Err (NotHeld 0)
unfolding rules
none_holds_nothing = refl

-- "after 1, 2, 3, 4 and 5": 5 is given for an empty batch too
root_before_empty : asked c (page 9) [] ≡ Err NoPage
unfolding rules
root_before_empty = refl

-- "and 7 as met": page 1 has a bad count, and then the root has another level
absent_before_damaged : asked (poked c 505 7) (page 2) (d 0 ∷ keyed ∷ d 4 ∷ []) ≡ Err (NotHeld 1)
unfolding rules
absent_before_damaged = refl

damaged_before_absent : asked (poked c 505 7) (page 2) (d 0 ∷ d 4 ∷ d 9 ∷ []) ≡ Err (Damaged (page 1) (Breaks Count))
unfolding rules
damaged_before_absent = refl

root_damaged : asked (poked c 760 8) (page 2) (d 0 ∷ []) ≡ Err (Damaged (page 2) (Breaks Level))
unfolding rules
root_damaged = refl

-- 19, document 02, One: the names that no case above shows. Page 0 has a datom of tag 01; page 0 of c has a child; page 3 ends without a
-- child; page 1 begins below the midpoint before it
form_unsound : checked (poked (calls (run 0 1) []) 23 64) (page 0) ≡ unsound_at (page 0) (Breaks Form)
unfolding rules
form_unsound = refl

leaf_unsound : checked (poked c 192 0) (page 2) ≡ unsound_at (page 0) (Breaks LeafChild)
unfolding rules
leaf_unsound = refl

abbrev headless : Place
headless =
    record {
      extent = record { size = 256; count = 4 };
      store = store_after c.extent c.store (record { level = 1; datoms = run 3 1; children = page 0 ∷ none ∷ [] } ∷ []);
      root = page 3;
      answer = done_with (page 3) 1;
    }

last_unsound : checked headless (page 3) ≡ unsound_at (page 3) (Breaks LastChild)
unfolding rules
last_unsound = refl

bounds_unsound : checked (poked c 256 1) (page 2) ≡ unsound_at (page 1) OutOfBounds
unfolding rules
bounds_unsound = refl

-- a page is read before its level is asked: page 2 under page 5 is of the wrong level, and has too many datoms
unreadable_before_level : checked (poked crossed 761 7) (page 5) ≡ unsound_at (page 2) (Breaks Count)
unfolding rules
unreadable_before_level = refl

-- the third word, of a check, of a step and of an insert that tells the fault
abbrev told_by : Place → PageId → ℕ
told_by p root = (check_words root (checked p root)).pages

abbrev step_told : Cursor → ℕ
step_told k = (step_words (steps k).answer).pages

-- each of the fourteen is told, by its number
each_told :
    (told_by (poked c 760 8) (page 2) ∷ told_by (poked c 761 7) (page 2) ∷ told_by (poked c 23 64) (page 2) ∷ told_by (poked c 0 9) (page 2)
    ∷ told_by (poked c 192 0) (page 2) ∷ told_by headless (page 3) ∷ told_by (poked c 712 9) (page 2)
    ∷ step_told (cursor 3 (indices 0 0 0) (pages 9 9 2)) ∷ told_by crossed (page 5)
    ∷ (named_answer (page 3) (inserted twice (page 3) (beside 0 ∷ beside 1 ∷ beside 2 ∷ beside 3 ∷ beside 4 ∷ []))).pages
    ∷ told_by (poked c 256 1) (page 2) ∷ step_told (cursor 3 (indices 0 0 2) (pages 9 9 2)) ∷ step_told (cursor 9 (indices 1 1 1) (pages 0 1 2))
    ∷ step_told (record {
      height = 1;
      begin_indices = indices 1 0 0;
      begin_pages = pages 0 0 0;
      end_indices = indices 0 0 0;
      end_pages = pages 0 0 0;
    }) ∷ [])
    ≡ map fault_number faults
unfolding rules
each_told = refl

-- a store of 256-byte pages, of a page count and a heap length
abbrev recorded : ℕ → ℕ → StoreRecord
recorded n used = record { size = 256; count = n; heap = used; order = 0 }

-- "the replicator's four words stay": 7, the given root, no pages, page 2; and the insert that tells the fault says Level, 1
words_stay :
    (insert_reply (recorded 3 0) (set c.store 760 8) [] scratch (page 2) [] (zeros 32)).area ≡ small 7 ++ (small 2 ++ (small 0 ++ small 2))
unfolding rules
words_stay = refl

words_named :
    (insert_named_reply (recorded 3 0) (set c.store 760 8) [] scratch (page 2) [] (zeros 32)).area ≡ small 7 ++ (small 2 ++ (small 1 ++ small 2))
unfolding rules
words_named = refl

-- document 02, Two. A heap of two texts of eight bytes, one content at offsets 0 and 16, and the datoms whose value names an offset
abbrev text : List ℕ
text = small 8 ++ (97 ∷ 98 ∷ 99 ∷ 100 ∷ 101 ∷ 102 ∷ 103 ∷ 104 ∷ [])

abbrev heap : List ℕ
heap = text ++ text

abbrev text_at : ℕ → Datom
text_at k = valued (0xc000_0000_0000_0000 + k)

abbrev word_at : ℕ → Datom
word_at k = valued (0x4000_0000_0000_0000 + k)

-- an initialise of an empty store by the first bytes of that heap, and calls at the page that it leaves of the first text
abbrev begun : ℕ → List Datom → Answer
begun used ds = (initialise_call (recorded 0 used) (zeros 2048) heap scratch ds).answer

abbrev texts : List ℕ
texts = store_after (record { size = 256; count = 0 }) (zeros 2048) (leaf_of (text_at 0 ∷ []) ∷ [])

abbrev added : ℕ → List Datom → Answer
added used ds = (insert_call (recorded 1 used) texts heap scratch (page 0) ds).answer

-- the page is the one that an initialise writes
text_written : initialise_call (recorded 0 16) (zeros 2048) heap scratch (text_at 0 ∷ []) ≡ record { answer = done_with (page 0) 1; pages = leaf_of (text_at 0 ∷ []) ∷ [] }
unfolding rules
text_written = refl

-- "(.. in a page 7)": where the heap ends before the constant, the page breaks the rule Form
constant_sound : check_call (recorded 1 16) texts heap (page 0) ≡ is_sound
unfolding rules
constant_sound = refl

constant_unsound : check_call (recorded 1 8) texts heap (page 0) ≡ unsound_at (page 0) (Breaks Form)
unfolding rules
constant_unsound = refl

constant_damaged : added 8 (d 1 ∷ []) ≡ Err (Damaged (page 0) (Breaks Form))
unfolding rules
constant_damaged = refl

-- "11 BadConstant(i), after 3": 3 is asked of the whole batch first. At offset 8 there is no length of a text, and no integer of 2^62 or
-- more; an offset that is no multiple of 8 is a temporary
form_before_constant : begun 32 (text_at 8 ∷ valued 0xffff_ffff_ffff_ffff ∷ []) ≡ Err (BadDatom 1)
unfolding rules
form_before_constant = refl

constant_refused : begun 32 (text_at 0 ∷ text_at 8 ∷ []) ≡ Err (BadConstant 1)
unfolding rules
constant_refused = refl

constant_temporary : begun 32 (text_at 4 ∷ []) ≡ Err (BadConstant 0)
unfolding rules
constant_temporary = refl

constant_inline : begun 32 (text_at 0 ∷ word_at 0 ∷ []) ≡ Err (BadConstant 1)
unfolding rules
constant_inline = refl

constant_past : begun 16 (text_at 0 ∷ text_at 16 ∷ []) ≡ Err (BadConstant 1)
unfolding rules
constant_past = refl

-- 11 before 4
constant_before_order : added 32 (d 1 ∷ d 0 ∷ text_at 8 ∷ []) ≡ Err (BadConstant 2)
unfolding rules
constant_before_order = refl

-- "(in a bound it is 10 ..)"
constant_bound : (start_call (recorded 1 32) texts heap (page 0) (text_at 8) (d 9)).answer ≡ Err BadBound
unfolding rules
constant_bound = refl

constant_upper : (start_call (recorded 1 16) texts heap (page 0) (text_at 0) (text_at 16)).answer ≡ Err BadBound
unfolding rules
constant_upper = refl

-- "1 also when the heap length passes its slice or is no multiple of 8": before 2, and by every call
heap_odd : begun 12 (run 0 129) ≡ Err BadStore
unfolding rules
heap_odd = refl

heap_passes : begun 40 [] ≡ Err BadStore
unfolding rules
heap_passes = refl

heap_odd_insert : added 12 [] ≡ Err BadStore
unfolding rules
heap_odd_insert = refl

heap_odd_start : (start_call (recorded 1 12) texts heap (page 0) (d 0) (d 9)).answer ≡ Err BadStore
unfolding rules
heap_odd_start = refl

heap_odd_step : (step_call (recorded 1 12) texts heap (cursor 0 (indices 4 4 4) (pages 9 9 9))).answer ≡ Err BadStore
unfolding rules
heap_odd_step = refl

heap_odd_held : held_call (recorded 1 12) texts heap (page 0) [] ≡ Err BadStore
unfolding rules
heap_odd_held = refl

heap_odd_check : check_call (recorded 1 12) texts heap (page 0) ≡ unchecked BadStore
unfolding rules
heap_odd_check = refl

-- "two offsets with equal content are equal datoms; from here demands 2 and 3, Repeated and OutOfOrder read "equal" that way"
same_repeated : added 32 (text_at 16 ∷ []) ≡ Err (Repeated 0)
unfolding rules
same_repeated = refl

same_stays : added 32 (text_at 0 ∷ text_at 16 ∷ []) ≡ Err (OutOfOrder 1)
unfolding rules
same_stays = refl

same_initialised : begun 32 (text_at 16 ∷ text_at 0 ∷ []) ≡ Err (OutOfOrder 1)
unfolding rules
same_initialised = refl

same_held : held_call (recorded 1 32) texts heap (page 0) (datoms_bytes (text_at 16 ∷ [])) ≡ all_held
unfolding rules
same_held = refl
