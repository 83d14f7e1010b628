-- What a history of calls promises: the statement that the desk bought the product for, in the words of demand 3. It ends with the
-- theorem's type, Demand3; Demand proves it. What is proved beyond it stands in More.
use Rattle.std.specs.Prelude.{Some, None}
use Rattle.std.specs.Prelude.{Err, Ok}
use Rattle.answer.specs.Answers.{Answer, done_with, ended_step, has_begun, yielding}
use Prim.Native.Nat.{ℕ, zero, suc, ◌*◌, ◌%◌, ◌^◌, ◌≤◌, ◌<◌, Ordering}
use Rattle.std.specs.Prelude.{true, false, List, [], ◌∷◌, ◌++◌, ◌↔◌, ◌≡◌, length, take}
use Rattle.store.specs.declared.PageId.{PageId}
use Rattle.store.specs.declared.StoreRecord.{StoreRecord}
use Rattle.store.specs.Bytes.{Bytes}
use Rattle.store.specs.Page.{none}
use Rattle.datom.specs.declared.Datom.{Datom}
use Rattle.index.specs.Order.{DatomOrd, index_of}
use Rattle.answer.specs.declared.Refusal.TheVariants.{Repeated}
use Rattle.answer.specs.declared.Cursor.{Cursor}
use Rattle.answer.specs.declared.Started.{Started}
use Rattle.answer.specs.declared.Stepped.{Stepped}
use Rattle.rules.specs.Node.{below}
use Rattle.rules.specs.Store.{bad_scratch, store_after}
use Rattle.rules.specs.Insert.{Outcome, batch_of}
use Rattle.rules.specs.Listing.{Listed, whole, cut, more, also}
use Rattle.rules.specs.Append.{bad_heap, Appending, append_word, append_text, heap_after}
use Rattle.rules.specs.Calls.{extent_of, is_unknown, ord_of, record_after, record_grown, insert_bytes_call, initialise_bytes_call, start_call, step_call}
use Rattle.rules.specs.Lists.{In, Rising}

-- a root that may be used, with the batches that led to it, the last one first
pub record Known : Type 0 where
  pub root : PageId
  pub batches : List (List ℕ)

-- where a history has come to: what the next call is handed, and the roots that it may use
pub record Moment : Type 0 where
  pub recorded : StoreRecord
  pub store : List ℕ
  pub heap : List ℕ
  pub roots : List Known

-- the order of a moment is the one that its record names; document 02, Two: "Order is by content", so by the heap in use
abbrev pub at : Moment → DatomOrd
at m = ord_of m.recorded m.heap

-- "Start from no pages and no root"
abbrev pub no_root : Known
no_root = record { root = none; batches = [] }

-- with any store, any heap in order, as constants may stand in it already, and the number of an order that is known
pub record Start : Type 0 where
  pub store : List ℕ
  pub heap : List ℕ
  pub used : ℕ
  pub in_good_order : bad_heap used heap ≡ false
  pub order : ℕ
  pub known : is_unknown (index_of order) ≡ false

abbrev pub beginning : ℕ → Start → Moment
beginning size s =
    record {
      recorded = record { size = size; count = 0; heap = s.used; order = s.order };
      store = s.store;
      heap = s.heap;
      roots = no_root ∷ [];
    }

-- the calls that write: a batch of bytes, and the length of the scratch that is lent with it
pub data Call : Type 0 where
  inserts : Known → List ℕ → ℕ → Call
  initialises : List ℕ → ℕ → Call

-- initialise is a call at none
abbrev pub given_root : Call → Known
given_root (inserts k b scratch) = k
given_root (initialises b scratch) = no_root

abbrev pub given_batch : Call → List ℕ
given_batch (inserts k b scratch) = b
given_batch (initialises b scratch) = b

-- "insert only at none or at a root that an accepted call returned"
abbrev pub AtKnown : Moment → Call → Type 0
AtKnown m (inserts k b scratch) = In k m.roots
AtKnown m (initialises b scratch) = Unit {0}

-- what the machine gives: a batch of bytes, and a slice of fewer than 2^64
pub record Lent (s b : List ℕ) : Type 0 where
  pub short : length s < 2 ^ 64
  pub bytes : Bytes b

pub record Fair (m : Moment) (c : Call) : Type 0 where
  pub known : AtKnown m c
  pub lent : Lent m.store (given_batch c)

-- "each call handed the page count the last one left": more pages and one more root after Done, as it was after a refusal
abbrev pub roots_after : Known → List ℕ → Answer → List Known → List Known
roots_after k b (Ok d) ks = record { root = d.root; batches = b ∷ k.batches } ∷ ks
roots_after k b (Err r) ks = ks

-- where a call leaves things, by its answer and the store's bytes: no call writes into the heap
abbrev pub left : Moment → Call → Answer → List ℕ → Moment
left m c a s =
    record { recorded = record_after m.recorded a; store = s; heap = m.heap; roots = roots_after (given_root c) (given_batch c) a m.roots }

-- what the rules give a call
abbrev pub outcome_of : Moment → Call → Outcome
outcome_of m (inserts k b scratch) = insert_bytes_call m.recorded m.store m.heap scratch k.root b
outcome_of m (initialises b scratch) = initialise_bytes_call m.recorded m.store m.heap scratch b

abbrev pub after : Moment → Call → Moment
after m c = left m c (outcome_of m c).answer (store_after (extent_of m.recorded) m.store (outcome_of m c).pages)

-- the calls that append to the heap: "an integer", "a byte string"
pub data Constant : Type 0 where
  integer : ℕ → Constant
  text : List ℕ → Constant

abbrev pub appending : Moment → Constant → Appending
appending m (integer w) = append_word m.heap m.recorded.heap w
appending m (text b) = append_text m.heap m.recorded.heap b

-- "demand 3 hands its length on like the page count": more of the heap in use after Stored, as it was after a refusal
abbrev pub appended : Moment → Constant → Moment
appended m c =
    record {
      recorded = record_grown m.recorded (appending m c).answer;
      store = m.store;
      heap = heap_after m.heap m.recorded.heap (appending m c);
      roots = m.roots;
    }

-- what may come next: a call or an append, accepted or refused; or somebody else
pub data Next (m : Moment) : Moment → Type 0 where
  calls : (c : Call) → Fair m c → Next m (after m c)
  -- for this store, or for another one that the heap serves
  appends : (c : Constant) → Next m (appended m c)
  -- "nobody else writing below it": the bytes at or past the count may change between calls, those of the heap at or past its length too,
  -- and so may the lengths of both slices
  others :
      (s h : List ℕ) → take (m.recorded.count * m.recorded.size) s ≡ take (m.recorded.count * m.recorded.size) m.store →
      take m.recorded.heap h ≡ take m.recorded.heap m.heap →
      Next m (record { recorded = m.recorded; store = s; heap = h; roots = m.roots })

pub data Later (m : Moment) : Moment → Type 0 where
  now : Later m m
  next : {m₁ m₂ : Moment} → Later m m₁ → Next m₁ m₂ → Later m m₂

-- a history, "with one page size"; document 02, Three: "every call at a root or on its history, listings too, uses one known order": the
-- record of every moment has the order of the first, as no call changes it
abbrev pub History : ℕ → Moment → Type 0
History size m = (s : Start) × Later (beginning size s) m

-- "the datoms of the accepted batches"
abbrev pub gathered : List (List ℕ) → List Datom
gathered [] = []
gathered (b ∷ bs) = batch_of b ++ gathered bs

-- "exactly the datoms .., from the lower bound up to but not including the upper, each once, ascending"
pub record Between (cmp : Datom → Datom → Ordering) (lo hi : Datom) (u ds : List Datom) : Type 0 where
  pub exactly : (x : Datom) → In x ds ↔ (In x u × (below cmp lo x ≡ false) × (below cmp hi x ≡ true))
  pub ascending : Rising cmp ds

-- n steps of a listing, the first from a cursor, each other from what the step before it gave, each at a moment of its own
abbrev pub StepsAlong : (ℕ → Moment) → ℕ → Cursor → (ℕ → Stepped) → Type 0
StepsAlong when zero c r = Unit {0}
StepsAlong when (suc n) c r =
    (r 0 ≡ step_call (when 0).recorded (when 0).store (when 0).heap c) × StepsAlong (λ i. when (suc i)) n (r 0).cursor (λ i. r (suc i))

-- what n steps handed out, and whether the listing has then ended
unfoldable pub handed : ℕ → (ℕ → Stepped) → Listed
handed zero r = more []
handed (suc n) r =
    elim (r 0).answer [ Ok (Some d) ↦ also d (handed n (λ i. r (suc i))) | Ok None ↦ whole [] | Err e ↦ cut e [] ]

-- "hands out .., and ends": begun at any later moment, each step taken at any moment later still, within one step more than datoms. Store
-- and heap may have grown before the start and before each step: the words handed out are the same.
abbrev pub HandsOut : Moment → Known → Datom → Datom → List Datom → Type 0
HandsOut m k lo hi ds =
    (m₁ : Moment) → Later m m₁ → (b : Started) → b ≡ start_call m₁.recorded m₁.store m₁.heap k.root lo hi →
    (b.answer ≡ has_begun)
    × ((when : ℕ → Moment) → ((i : ℕ) → Later m₁ (when i)) → (n : ℕ) (r : ℕ → Stepped) → StepsAlong when n b.cursor r → length ds < n →
    handed n r ≡ whole ds)

-- "A well-formed batch": what 2, 3, 11 and 4 of the table let through
pub record WellFormed (t : DatomOrd) (b : List ℕ) : Type 0 where
  pub multiple : length b % 32 ≡ 0
  pub few : length (batch_of b) ≤ 128
  pub formed : (d : Datom) → In d (batch_of b) → t.formed d ≡ true
  pub form : (d : Datom) → In d (batch_of b) → t.stored d ≡ true
  pub order : Rising t.cmp (batch_of b)

-- a datom equal to one of a list: "two offsets with equal content are equal datoms"
abbrev pub Shared : (Datom → Datom → Ordering) → List Datom → Datom → Type 0
Shared cmp u d = (y : Datom) × In y u × (cmp y d ≡ Ordering.eq)

-- what is promised of a root at a moment
pub record Promise (m : Moment) (k : Known) : Type 0 where
  -- "Then a listing between well-formed bounds at any such root, older ones too, hands out exactly the datoms of the accepted batches
  -- that led to that root, .. and ends. Later calls, accepted or refused, change none of it."
  pub listed :
      (lo hi : Datom) → (at m).bound lo ≡ true → (at m).bound hi ≡ true →
      (ds : List Datom) × Between (at m).cmp lo hi (gathered k.batches) ds × HandsOut m k lo hi ds
  -- the root stays one that may be used, so all of this holds of it at every later moment too
  pub stays : (m₁ : Moment) → Later m m₁ → In k m₁.roots
  -- "A well-formed batch inserted there, store and scratch in order, is answered Repeated exactly if it shares a datom with them.": in a
  -- history the store is in order, and so is the heap
  pub answered :
      (b : List ℕ) → Lent m.store b → WellFormed (at m) b → (scratch : ℕ) → bad_scratch (extent_of m.recorded) scratch ≡ false →
      ((i : ℕ) × ((outcome_of m (inserts k b scratch)).answer ≡ Err (Repeated i)))
      ↔ ((d : Datom) × In d (batch_of b) × Shared (at m).cmp (gathered k.batches) d)
  -- each of these datoms may be stored: so one that is equal to it has the same entity, attribute, last word and content, and where one of
  -- the two values names no constant it is the very same
  pub stored : (x : Datom) → In x (gathered k.batches) → (at m).stored x ≡ true

-- the theorem: at every moment of a history every root that may be used is as promised
abbrev pub Demand3 : ℕ → Type 0
Demand3 size = (m : Moment) → History size m → (k : Known) → In k m.roots → Promise m k
