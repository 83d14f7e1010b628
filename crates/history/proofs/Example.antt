-- A history that is one: examples c, e, f and g of document 01 as calls over bytes, then a batch that finds no room, and a slice that
-- somebody else makes longer. So the theorem speaks of something. Rests on Base and on the rules, computed.
use Rattle.std.specs.Prelude.{Err}
use Prim.Native.Nat.{Ordering}
use Rattle.std.specs.Prelude.{ℕ, ◌*◌, ◌%◌, ◌≤◌, true, false, List, [], ◌∷◌, ◌++◌, ◌≡◌, refl, length, take}
use Rattle.std.proofs.Common.{arith, inl, inr, take_at, length-take-le}
use Rattle.store.specs.declared.StoreRecord.{StoreRecord}
use Rattle.store.specs.Words.{zeros}
use Rattle.store.specs.Size.{sizes}
use Rattle.store.specs.Page.{page}
use Rattle.datom.specs.declared.Datom.{Datom}
use Rattle.datom.specs.Datom.{datoms_bytes}
use Rattle.index.specs.declared.Index.TheVariants.{Eavt}
use Rattle.index.specs.Order.{DatomOrd}
use Rattle.answer.specs.declared.Refusal.TheVariants.{Repeated, NoRoom}
use Rattle.rules.specs.Insert.{batch_of, sort}
use Rattle.rules.specs.Store.{bad_scratch}
use Rattle.rules.specs.Append.{bad_heap}
use Rattle.rules.specs.Calls.{extent_of, ord_of}
use Rattle.rules.specs.Recorded.{order_known_law}
use Rattle.rules.specs.Lists.{In}
use Rattle.rules.specs.Table.{d, eavt, run}
use Rattle.rules.specs.Open.{rules}
use Rattle.history.specs.Statement.{Known, Moment, at, Call, inserts, initialises, no_root, Start, beginning, Lent, outcome_of, after, calls, others, Later, now, next, History, gathered, HandsOut, WellFormed}
use Rattle.history.specs.Sort.{within}
use Rattle.history.specs.Batch.{datoms_bytes_law}
use Rattle.history.proofs.Base.{base, base_hands_out}

-- a batch of datoms, with scratch in order
abbrev pub initialising : List Datom → Call
initialising ds = initialises (datoms_bytes ds) 65536

abbrev pub inserting : Known → List Datom → Call
inserting k ds = inserts k (datoms_bytes ds) 65536

-- a root that a batch led to from another
abbrev pub grown : ℕ → List Datom → Known → Known
grown root ds k = record { root = page root; batches = datoms_bytes ds ∷ k.batches }

-- "root 2", "root 3", "root 6"
abbrev pub root_c : Known
root_c = grown 2 (run 0 7) no_root

abbrev pub root_e : Known
root_e = grown 3 (run 7 5) root_c

abbrev pub root_f : Known
root_f = grown 6 (run 12 1) root_e

-- "256-byte pages", room for eight of them, and no heap
pub no_heap_law : bad_heap 0 [] ≡ false
unfolding bad_heap
no_heap_law = refl

abbrev pub no_heap : List ℕ → Start
no_heap s = record { store = s; heap = []; used = 0; in_good_order = no_heap_law; order = 0; known = order_known_law Eavt }

unfoldable pub start : Moment
start = beginning 256 (no_heap (zeros 2048))

-- "c d(0)..d(6)", "e After c, insert d7..d11", "f Then d12", "g Then d12 again: Repeated(0)"
unfoldable pub after_c : Moment
after_c = after start (initialising (run 0 7))

unfoldable pub after_e : Moment
after_e = after after_c (inserting root_c (run 7 5))

unfoldable pub after_f : Moment
after_f = after after_e (inserting root_e (run 12 1))

unfoldable pub after_g : Moment
after_g = after after_f (inserting root_f (run 12 1))

-- d13 to d17 split a leaf, and only page 7 is free: NoRoom, with one page written past the count
unfoldable pub after_h : Moment
after_h = after after_g (inserting root_f (run 13 5))

-- somebody makes the slice longer, and cares for nothing past the count
unfoldable pub longer : Moment
longer = record { recorded = after_h.recorded; store = take 1792 after_h.store ++ zeros 2304; heap = after_h.heap; roots = after_h.roots }

-- what is known at a moment, computed
pub record At (m : Moment) (r : StoreRecord) (h : List ℕ) (n : ℕ) (ks : List Known) : Type 0 where
  pub recorded : m.recorded ≡ r
  pub heap : m.heap ≡ h
  pub roots : m.roots ≡ ks
  pub long : length m.store ≡ n

-- its order
pub order_at : {m : Moment} {r : StoreRecord} {h : List ℕ} {n : ℕ} {ks : List Known} → At m r h n ks → at m ≡ ord_of r h
order_at a = rw (a.recorded, a.heap)

-- pages of a size, and no heap
abbrev pub pages : ℕ → ℕ → StoreRecord
pages size count = record { size = size; count = count; heap = 0; order = 0 }

at_start : At start (pages 256 0) [] 2048 (no_root ∷ [])
unfolding rules start
at_start = record { recorded = refl; heap = refl; roots = refl; long = refl }

at_c : At after_c (pages 256 3) [] 2048 (root_c ∷ no_root ∷ [])
unfolding rules start after_c
at_c = record { recorded = refl; heap = refl; roots = refl; long = refl }

at_e : At after_e (pages 256 4) [] 2048 (root_e ∷ root_c ∷ no_root ∷ [])
unfolding rules start after_c after_e
at_e = record { recorded = refl; heap = refl; roots = refl; long = refl }

at_f : At after_f (pages 256 7) [] 2048 (root_f ∷ root_e ∷ root_c ∷ no_root ∷ [])
unfolding rules start after_c after_e after_f
at_f = record { recorded = refl; heap = refl; roots = refl; long = refl }

at_g : At after_g (pages 256 7) [] 2048 (root_f ∷ root_e ∷ root_c ∷ no_root ∷ [])
unfolding rules start after_c after_e after_f after_g
at_g = record { recorded = refl; heap = refl; roots = refl; long = refl }

at_h : At after_h (pages 256 7) [] 2048 (root_f ∷ root_e ∷ root_c ∷ no_root ∷ [])
unfolding rules start after_c after_e after_f after_g after_h
at_h = record { recorded = refl; heap = refl; roots = refl; long = refl }

at_longer : At longer (pages 256 7) [] 4096 (root_f ∷ root_e ∷ root_c ∷ no_root ∷ [])
unfolding rules start after_c after_e after_f after_g after_h longer
at_longer = record { recorded = refl; heap = refl; roots = refl; long = refl }

-- the batch found no room
pub no_room : (outcome_of after_g (inserting root_f (run 13 5))).answer ≡ Err NoRoom
unfolding rules start after_c after_e after_f after_g
no_room = refl

pub lent :
    {m : Moment} {r : StoreRecord} {h : List ℕ} {n : ℕ} {ks : List Known} → At m r h n ks → n ≤ 65536 → (ds : List Datom) →
    Lent m.store (datoms_bytes ds)
lent a f ds = record { short = omega (arith, a.long); bytes = datoms_bytes_law ds }

pub then_inserted :
    {m₀ m : Moment} {r : StoreRecord} {h : List ℕ} {n : ℕ} {ks : List Known} (k : Known) (ds : List Datom) → At m r h n ks → n ≤ 65536 → In k ks →
    Later m₀ m → Later m₀ (after m (inserting k ds))
then_inserted k ds a f i l = next l (calls (inserting k ds) (record { known = rw a.roots i; lent = lent a f ds }))

to_f : Later start after_f
unfolding start after_c after_e after_f
to_f =
    then_inserted root_e (run 12 1) at_e (omega arith) (inl refl)
    (then_inserted root_c (run 7 5) at_c (omega arith) (inl refl)
    (next now (calls (initialising (run 0 7)) (record { known = tt; lent = lent at_start (omega arith) (run 0 7) }))))

to_h : Later start after_h
unfolding after_g after_h
to_h =
    then_inserted root_f (run 13 5) at_g (omega arith) (inl refl)
    (then_inserted root_f (run 12 1) at_f (omega arith) (inl refl) to_f)

to_longer : Later start longer
unfolding longer
to_longer = next to_h (others _ _ same refl)
  where
    same :
        take (after_h.recorded.count * after_h.recorded.size) (take 1792 after_h.store ++ zeros 2304)
        ≡ take (after_h.recorded.count * after_h.recorded.size) after_h.store
    same = rw at_h.recorded (take_at (take 1792 after_h.store) (zeros 2304) 1792 (length-take-le 1792 after_h.store (omega (arith, at_h.long))))

pub example : History 256 longer
unfolding start
example = (no_heap (zeros 2048), to_longer)

-- what the theorem says of listings, once what led to the root is computed
pub lists :
    {size : ℕ} (i : In size sizes) {m : Moment} → History size m → (k : Known) → In k m.roots → (t : DatomOrd) → at m ≡ t → (lo hi : Datom)
    (ds : List Datom) →
    t.bound lo ≡ true → t.bound hi ≡ true → within t.cmp lo hi (sort t.cmp (gathered k.batches)) ≡ ds → HandsOut m k lo hi ds
lists i {m} h k j t z lo hi ds a b e =
    let w : within (at m).cmp lo hi (sort (at m).cmp (gathered k.batches)) ≡ ds = rw z e in
    rw w at (base_hands_out _ i m h k j lo hi (rw z a) (rw z b))

-- every datom once; and at the oldest root what it had
pub lists_c : HandsOut longer root_c (d 0) (d 13) (run 0 7)
unfolding rules within
lists_c = lists (inl refl) example root_c (rw at_longer.roots (inr (inr (inl refl)))) eavt (order_at at_longer) (d 0) (d 13) (run 0 7) refl refl refl

pub lists_f : HandsOut longer root_f (d 0) (d 13) (run 0 13)
unfolding rules within
lists_f = lists (inl refl) example root_f (rw at_longer.roots (inl refl)) eavt (order_at at_longer) (d 0) (d 13) (run 0 13) refl refl refl

-- a batch of one datom
pub one_formed :
    (t : DatomOrd) (b : List ℕ) (x : Datom) → length b % 32 ≡ 0 → batch_of b ≡ x ∷ [] → t.formed x ≡ true → t.stored x ≡ true → WellFormed t b
one_formed t b x m e f g =
    record {
      multiple = m;
      few = rw e (omega arith);
      formed = λ y i. elim (rw e at i) [ inl z ↦ rw z f | inr z ↦ absurd z ];
      form = λ y i. elim (rw e at i) [ inl z ↦ rw z g | inr z ↦ absurd z ];
      order = rw e (λ y i. absurd i, tt);
    }

-- and of a batch of one datom: where an equal one led to the root, it is Repeated
pub shared_again :
    {size : ℕ} (i : In size sizes) {m : Moment} → History size m → (k : Known) → In k m.roots → (t : DatomOrd) → at m ≡ t → (b : List ℕ) (x y : Datom)
    (scratch : ℕ) →
    Lent m.store b → WellFormed t b → bad_scratch (extent_of m.recorded) scratch ≡ false → In x (batch_of b) → In y (gathered k.batches) →
    t.cmp y x ≡ Ordering.eq → (j : ℕ) × ((outcome_of m (inserts k b scratch)).answer ≡ Err (Repeated j))
shared_again {size} i {m} h k j t z b x y scratch lent w s p q e =
    ((base size i m h k j).answered b lent (rw z w) scratch s).1 (x, p, (y, q, rw z e))

-- the batch that is sent again shares a datom
pub repeated : (i : ℕ) × ((outcome_of after_f (inserting root_f (run 12 1))).answer ≡ Err (Repeated i))
unfolding rules start
repeated =
    shared_again (inl refl) (no_heap (zeros 2048), to_f) root_f (rw at_f.roots (inl refl)) eavt (order_at at_f) (datoms_bytes (run 12 1)) (d 12) (d 12) 65536
    (lent at_f (omega arith) (run 12 1)) (one_formed eavt _ (d 12) refl refl refl refl) (rw at_f.recorded) (inl refl) (inl refl) refl
