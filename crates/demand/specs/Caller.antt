-- Demand 3 of the code, for a caller in C or C++: what it is handed back are numbers and bytes, and it goes on by them. Calls that are
-- known by the promises of the C entries alone are calls of a history; so the listings that it steps through, and the numbers that its
-- batches are answered with, are those of demand 3; and a batch that it asks for is held exactly if all of it led there.
use Rattle.std.specs.Prelude.{ℕ, zero, suc, ◌+◌, ◌^◌, ◌<◌, true, false, cond, List, [], ◌∷◌, ◌⊎◌, ◌↔◌, ◌≡◌, eqb, length}
use Rattle.store.specs.Words.{word_at}
use Rattle.store.specs.Record.{extent_of}
use Rattle.store.specs.Size.{sizes}
use Rattle.store.specs.Page.{page}
use Rattle.datom.specs.declared.Datom.{Datom}
use Rattle.datom.specs.Datom.{datom_at, datom_bytes}
use Rattle.answer.specs.Table.{check_words, held_words}
use Rattle.rules.specs.Store.{bad_scratch}
use Rattle.rules.specs.Insert.{batch_of}
use Rattle.rules.specs.Calls.{check_call, held_call}
use Rattle.rules.specs.Entry.{Reply, insert_reply, insert_named_reply, initialise_reply}
use Rattle.rules.specs.Lists.{In}
use Rattle.florinwick.specs.Words.{Replied, AreaReplied}
use Rattle.florinwick.specs.Record.{record_in}
use Rattle.florinwick.specs.Append.{HeapReplied}
use Rattle.florinwick.specs.Listing.{start_in, step_in, Begins, Steps}
use Rattle.history.specs.Statement.{Known, Moment, at, Start, Constant, appending, Call, inserts, initialises, given_root, given_batch, Lent, Fair, beginning, gathered, Between, WellFormed, Shared}
use Rattle.history.specs.More.{FirstShared, FirstNot}
use Rattle.demand.specs.Runs.{SameBelow, SameConstants, changed, Runs}

-- the block q that the caller lends has the record of the moment
abbrev pub Lends : Moment → List ℕ → Type 0
Lends m q = record_in q ≡ m.recorded

-- what `florinwick_insert` and `florinwick_initialise` promise of a call, given the record's block and an area for the answer
abbrev pub reply_to : Moment → List ℕ → Call → List ℕ → Reply
reply_to m q (inserts k b scratch) a = insert_reply (record_in q) m.store m.heap scratch k.root b a
reply_to m q (initialises b scratch) a = initialise_reply (record_in q) m.store m.heap scratch b a

-- a call that may write, by the promise of its C entry: it returned r, left the bytes s, and in the area a for its answer a₁.
-- `florinwick_insert_named` is the same insert, told with the fault
pub data Wrote (m : Moment) (q : List ℕ) (r : ℕ) (s a a₁ : List ℕ) : Call → Type 0 where
  plainly : {c : Call} → Replied r s a₁ (reply_to m q c a) → Wrote m q r s a a₁ c
  named :
      {k : Known} {b : List ℕ} {scratch : ℕ} → Replied r s a₁ (insert_named_reply (record_in q) m.store m.heap scratch k.root b a) →
      Wrote m q r s a a₁ (inserts k b scratch)

-- how the caller goes on, by the number that was returned and the words in the area: after 0 the page count grows by word 2, and word 1 is
-- a root that may be used
abbrev pub going_on : Moment → Call → ℕ → List ℕ → List ℕ → Moment
going_on m c r s a =
    record {
      recorded = record {
        size = m.recorded.size;
        count = m.recorded.count + cond (eqb r 0) (word_at a 16) 0;
        heap = m.recorded.heap;
        order = m.recorded.order;
      };
      store = s;
      heap = m.heap;
      roots = cond (eqb r 0) (record { root = page (word_at a 8); batches = given_batch c ∷ (given_root c).batches } ∷ m.roots) m.roots;
    }

-- and after an append by `florinwick_append_u64` or `florinwick_append_bytes`: after 0 the heap's length grows by word 2
abbrev pub grows_on : Moment → ℕ → List ℕ → List ℕ → Moment
grows_on m r h a =
    record {
      recorded = record {
        size = m.recorded.size;
        count = m.recorded.count;
        heap = m.recorded.heap + cond (eqb r 0) (word_at a 16) 0;
        order = m.recorded.order;
      };
      store = m.store;
      heap = h;
      roots = m.roots;
    }

-- what may happen between two moments: a call that returned r, left the bytes s and wrote its answer into an area of 32 bytes; an append
-- to a slice of fewer than 2^64 bytes that left the bytes h; or somebody else, at or past the count and the heap's length
pub data CallerMove (m : Moment) : Moment → Type 0 where
  ran :
      (c : Call) → Fair m c → (q : List ℕ) → Lends m q → (r : ℕ) (s a a₁ : List ℕ) → length a ≡ 32 → Wrote m q r s a a₁ c →
      CallerMove m (going_on m c r s a₁)
  stored :
      (c : Constant) → length m.heap < 2 ^ 64 → (r : ℕ) (h a a₁ : List ℕ) → length a ≡ 32 →
      HeapReplied r a a₁ m.heap h m.recorded.heap (appending m c) → CallerMove m (grows_on m r h a₁)
  others : (s h : List ℕ) → SameBelow m s → SameConstants m h → CallerMove m (changed m s h)

-- what the caller has after a step: the number returned, the bytes of its cursor and those of its datom area
pub record StepBytes : Type 0 where
  pub number : ℕ
  pub cursor : List ℕ
  pub datom : List ℕ

-- a step from the bytes c of a cursor, by the promise of `florinwick_list_step`, with areas of 32 bytes for the answer and the datom
pub record StepTaken (m : Moment) (c : List ℕ) (k : StepBytes) : Type 0 where
  pub block : List ℕ
  pub area : List ℕ
  pub told : List ℕ
  pub room : List ℕ
  pub lends : Lends m block
  pub answers : length area ≡ 32
  pub datoms : length room ≡ 32
  pub steps : Steps k.number area told c k.cursor room k.datom (step_in (record_in block) m.store m.heap c room)

-- n steps, each at a moment of its own, each from the bytes that the one before it left
abbrev pub StepsTaken : (ℕ → Moment) → ℕ → List ℕ → (ℕ → StepBytes) → Type 0
StepsTaken when zero c r = Unit {0}
StepsTaken when (suc n) c r = StepTaken (when 0) c (r 0) × StepsTaken (λ i. when (suc i)) n (r 0).cursor (λ i. r (suc i))

-- 0 for each datom, with its bytes in the area, and then 32
abbrev pub Heard : List Datom → (ℕ → StepBytes) → Type 0
Heard [] r = (r 0).number ≡ 32
Heard (d ∷ ds) r = ((r 0).number ≡ 0) × ((r 0).datom ≡ datom_bytes d) × Heard ds (λ i. r (suc i))

-- "hands out .., and ends": begun by `florinwick_list_start` at any later moment, each step taken at any moment later still
abbrev pub CallerHandsOut : Moment → Known → List ℕ → List ℕ → List Datom → Type 0
CallerHandsOut m k lower upper ds =
    (m₁ : Moment) → Runs CallerMove m m₁ → length m₁.store < 2 ^ 64 →
    (q : List ℕ) → Lends m₁ q → (r : ℕ) (a a₁ c c₁ : List ℕ) → length a ≡ 32 → length c ≡ 264 →
    Begins r a a₁ c c₁ k.root (start_in (record_in q) m₁.store m₁.heap k.root lower upper c) →
    (r ≡ 0)
    × ((when : ℕ → Moment) → ((i : ℕ) → Runs CallerMove m₁ (when i)) → (n : ℕ) (w : ℕ → StepBytes) → StepsTaken when n c₁ w → length ds < n → Heard ds w)

-- a batch that `florinwick_held` was asked for, by its promise: it returned r and wrote its answer into an area of 32 bytes
pub record HeldCall (m : Moment) (k : Known) (b : List ℕ) (r : ℕ) (a a₁ : List ℕ) : Type 0 where
  pub block : List ℕ
  pub lends : Lends m block
  pub answers : length a ≡ 32
  pub replied : AreaReplied r a a₁ (held_words k.root (held_call (record_in block) m.store m.heap k.root b))

-- what a caller of the C interface is promised of a root
pub record CallerPromise (m : Moment) (k : Known) : Type 0 where
  pub listed :
      (lower upper : List ℕ) → length lower ≡ 32 → length upper ≡ 32 → (at m).bound (datom_at lower 0) ≡ true → (at m).bound (datom_at upper 0) ≡ true →
      (ds : List Datom) × Between (at m).cmp (datom_at lower 0) (datom_at upper 0) (gathered k.batches) ds × CallerHandsOut m k lower upper ds
  pub stays : (m₁ : Moment) → Runs CallerMove m m₁ → In k m₁.roots
  -- "Repeated" is 6
  pub answered :
      (b : List ℕ) → Lent m.store b → WellFormed (at m) b → (scratch : ℕ) → bad_scratch (extent_of m.recorded) scratch ≡ false →
      (q : List ℕ) → Lends m q → (r : ℕ) (s a a₁ : List ℕ) → length a ≡ 32 → Wrote m q r s a a₁ (inserts k b scratch) →
      (r ≡ 6) ↔ ((d : Datom) × In d (batch_of b) × Shared (at m).cmp (gathered k.batches) d)
  -- "the answer is Repeated with the first such place, and nothing is written": word 3 is its index in the batch
  pub receipt :
      (b : List ℕ) → Lent m.store b → WellFormed (at m) b → (scratch : ℕ) → bad_scratch (extent_of m.recorded) scratch ≡ false →
      (q : List ℕ) → Lends m q → (r : ℕ) (s a a₁ : List ℕ) → length a ≡ 32 → Wrote m q r s a a₁ (inserts k b scratch) → r ≡ 6 →
      FirstShared (at m).cmp (gathered k.batches) (batch_of b) (word_at a₁ 24) × (s ≡ m.store)
  -- held exactly if every datom is equal to one of those that led to the root: 0, and else NotHeld, 16, with the first that is not in word 3
  pub asked :
      (b : List ℕ) → WellFormed (at m) b → (r : ℕ) (a a₁ : List ℕ) → HeldCall m k b r a a₁ →
      ((r ≡ 0) ↔ ((d : Datom) → In d (batch_of b) → Shared (at m).cmp (gathered k.batches) d))
      × ((r ≡ 0) ⊎ ((r ≡ 16) × FirstNot (Shared (at m).cmp (gathered k.batches)) (batch_of b) (word_at a₁ 24)))
  -- so a batch that was accepted is held, at the root that it led to and at every root that grew from that one
  pub keeps : (b : List ℕ) → In b k.batches → WellFormed (at m) b → (r : ℕ) (a a₁ : List ℕ) → HeldCall m k b r a a₁ → r ≡ 0
  -- and Sound is 0
  pub sound :
      (q : List ℕ) → Lends m q → (r : ℕ) (a a₁ : List ℕ) → length a ≡ 32 →
      AreaReplied r a a₁ (check_words k.root (check_call (record_in q) m.store m.heap k.root)) → r ≡ 0

-- the theorem: from no pages and no root on, every root that may be used is as promised
abbrev pub CallerDemand3 : Type 0
CallerDemand3 = (size : ℕ) → In size sizes → (s : Start) (m : Moment) → Runs CallerMove (beginning size s) m → (k : Known) → In k m.roots → CallerPromise m k
