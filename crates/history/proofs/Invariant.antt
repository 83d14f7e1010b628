-- The invariant of a history: every root holds a good tree of the datoms that led to it, every page below the count can be read, and the
-- heap is in order. Rests on Calls, After, Agree and Heap.
use Rattle.std.specs.Prelude.{ℕ, zero, suc, ◌+◌, ◌-◌, ◌*◌, ◌≤◌, ◌<◌, Bool, List, [], ◌∷◌, ◌⊎◌, ◌≡◌, length, take}
use Rattle.std.proofs.Common.{arith, ◌∙◌}
use Rattle.std.proofs.Math.Bool.{true, false}
use Rattle.std.proofs.Math.Logic.{inl, inr}
use mathlib.Core.Logic.Iff as Iff
use Rattle.std.proofs.Math.Path.{refl}
use borrow.Author.Tests.{ltb-true, ltb-false}
use Rattle.std.proofs.Math.Dec.{ltb}
use Rattle.store.specs.declared.PageId.{PageId}
use Rattle.store.specs.declared.Extent.{Extent}
use Rattle.store.specs.declared.StoreRecord.{StoreRecord}
use Rattle.store.specs.Size.{capacity}
use Rattle.store.specs.Laws.{known_size}
use Rattle.datom.specs.declared.Datom.{Datom}
use Rattle.index.specs.Order.{DatomOrd, index_of}
use Rattle.index.proofs.Agree.{Agrees}
use Rattle.rules.specs.Page.{Node}
use Rattle.rules.specs.Tree.{Fetched, fine}
use Rattle.rules.specs.Store.{fetch_page, env_of, store_after}
use Rattle.rules.specs.Insert.{Outcome, batch_of}
use Rattle.rules.specs.Append.{bad_heap}
use Rattle.rules.specs.Calls.{extent_of, is_unknown, ord_of}
use Rattle.rules.specs.Recorded.{insert_call_law, initialise_call_law}
use Rattle.rules.specs.Lists.{In, in_left, in_right, in_append}
use Rattle.history.specs.Statement.{Known, Moment, at, Call, inserts, initialises, given_root, given_batch, no_root, Start, beginning, left, outcome_of, after, Lent, Fair, appending, appended, Next, calls, appends, others, Later, now, next, History, gathered}
use Rattle.history.specs.Tree.{blank}
use Rattle.history.specs.Pages.{no_page, Extends, holds_extends, none_is}
use Rattle.history.specs.Held.{nth, held, Storable}
use Rattle.history.specs.Grow.{Rooted}
use Rattle.history.specs.After.{fetch_kept, long_enough, store_keeps, after_fits, held_after}
use Rattle.history.specs.Sort.{Distinct, Fresh, distinct_append}
use Rattle.history.proofs.Calls.{Inserted, Called, refuses, accepts, insert_ok, called, initialise_ok}
use Rattle.history.proofs.Agree.{KnownOk, fetch_agrees, known_agrees}
use Rattle.history.proofs.Heap.{at_laws, record_after_law, record_grown_law, next_agrees, later_agrees, next_heap}

abbrev pub Readable : DatomOrd → Extent → List ℕ → Type 0
Readable t x s = (p : PageId) → p.0 < x.count → (n : Node) × (fetch_page t x s p ≡ fine n)

pub record Inv (size : ℕ) (m : Moment) : Type 0 where
  pub sized : m.recorded.size ≡ size
  pub fits : m.recorded.count * m.recorded.size ≤ length m.store
  pub heap : bad_heap m.recorded.heap m.heap ≡ false
  pub order : is_unknown (index_of m.recorded.order) ≡ false
  pub known : (k : Known) → In k m.roots → KnownOk (at m) (extent_of m.recorded) m.store k
  pub readable : Readable (at m) (extent_of m.recorded) m.store

known_kept :
    {t : DatomOrd} {x x₁ : Extent} {s s₁ : List ℕ} {k : Known} → Extends (fetch_page t x s) (fetch_page t x₁ s₁) → KnownOk t x s k →
    KnownOk t x₁ s₁ k
known_kept e w =
    let R = w.root in
    record {
      distinct = w.distinct;
      stored = w.stored;
      root = record { level = R.level; tree = R.tree; holds = holds_extends e R.holds; good = R.good; exactly = R.exactly };
    }

nothing_known : (t : DatomOrd) (x : Extent) (s : List ℕ) → KnownOk t x s no_root
nothing_known t x s =
    record {
      distinct = tt;
      stored = λ y i. absurd i;
      root = record { level = 0; tree = blank; holds = no_page none_is; good = tt; exactly = λ y. Iff.rfl };
    }

nth_some : (o : List Node) (i : ℕ) → i < length o → (n : Node) × (nth o i ≡ fine n)
unfolding nth
nth_some [] i h = absurd (omega arith)
nth_some (n ∷ o) zero h = (n, refl)
nth_some (n ∷ o) (suc i) h = nth_some o i (omega arith)

-- what a moment reads
abbrev pub fetches : Moment → PageId → Fetched
fetches m = fetch_page (at m) (extent_of m.recorded) m.store

-- the same bytes below the count and an order that agrees: every page that could be read still can
module _ (m : Moment) (r : StoreRecord) (s h : List ℕ) (z : r.size ≡ m.recorded.size)
    (e : take (m.recorded.count * m.recorded.size) s ≡ take (m.recorded.count * m.recorded.size) m.store) (A : Agrees (at m) (ord_of r h))
  where
    same_extends :
        m.recorded.count ≤ r.count → Extends (fetch_page (ord_of r h) (extent_of m.recorded) m.store) (fetch_page (ord_of r h) (extent_of r) s)
    same_extends c = fetch_kept (ord_of r h) (extent_of m.recorded) (extent_of r) m.store s z c e

    pages_extend : m.recorded.count ≤ r.count → Extends (fetches m) (fetch_page (ord_of r h) (extent_of r) s)
    pages_extend c p n q = same_extends c p n (fetch_agrees (at m) (ord_of r h) A (extent_of m.recorded) m.store p n q)

    -- and with the same count every root stays
    same_pages :
        (size : ℕ) → r.count ≡ m.recorded.count → r.order ≡ m.recorded.order → bad_heap r.heap h ≡ false → Inv size m →
        Inv size (record { recorded = r; store = s; heap = h; roots = m.roots })
    same_pages size c o g I =
        record {
          sized = z ∙ I.sized;
          fits = rw (z, c) (long_enough (m.recorded.count * m.recorded.size) m.store s e I.fits);
          heap = g;
          order = rw o I.order;
          known = λ k i. known_kept (same_extends (omega (arith, c))) (known_agrees (at m) (ord_of r h) A (I.known k i));
          readable = λ p l. let w = I.readable p (omega (arith, c)) in (w.0, pages_extend (omega (arith, c)) p w.0 w.1);
        }

pub next_extends : {size : ℕ} {m m₁ : Moment} → Next m m₁ → Inv size m → Extends (fetches m) (fetches m₁)
next_extends {m} (calls c F) I =
    let H = record_after_law m.recorded (outcome_of m c).answer in
    pages_extend m (after m c).recorded (after m c).store m.heap H.size (store_keeps (extent_of m.recorded) m.store I.fits (outcome_of m c).pages)
    (next_agrees {m = m} (calls c F)) H.count
next_extends {m} (appends c) I =
    let w = record_grown_law m.recorded (appending m c).answer in
    pages_extend m (appended m c).recorded m.store (appended m c).heap w.0 refl (next_agrees {m = m} (appends c)) (omega (arith, w.1))
next_extends {m} (others s h e f) I = pages_extend m m.recorded s h refl e (next_agrees {m = m} (others s h e f)) (omega arith)

-- Done: the pages written hold a new root
module _
    (t : DatomOrd) (size : ℕ) (known : capacity size ≡ 0 → ⊥) (x : Extent) (s : List ℕ) (sized : x.size ≡ size)
    (fits : x.count * x.size ≤ length s) (k : Known) (b : List ℕ) (root : PageId) (o : List Node)
    (R : Rooted t (env_of t x s) (λ y. In y (gathered k.batches) ⊎ In y (batch_of b)) [] root o)
  where
    abbrev larger : Extent
    larger = record { size = x.size; count = x.count + length o }

    big : 40 * capacity x.size + 10 ≤ x.size
    big = rw sized (known_size size known).fits

    grows : Extends (held (env_of t x s) o) (fetch_page t larger (store_after x s o))
    unfolding env_of
    grows = held_after t x s fits big o R.grown.more.written

    stays : Extends (fetch_page t x s) (fetch_page t larger (store_after x s o))
    stays = fetch_kept t x larger s (store_after x s o) refl (omega arith) (store_keeps x s fits o)

    fits_after : (x.count + length o) * x.size ≤ length (store_after x s o)
    unfolding env_of
    fits_after = after_fits t x s fits big o R.grown.more.written

    new_known :
        KnownOk t x s k → Distinct t.cmp (batch_of b) → ((y : Datom) → In y (batch_of b) → Storable t y) →
        Fresh t.cmp (batch_of b) (gathered k.batches) →
        KnownOk t larger (store_after x s o) (record { root = root; batches = b ∷ k.batches })
    unfolding env_of
    new_known K d a f =
        let G = R.grown in
        record {
          distinct = distinct_append t.cmp (batch_of b) (gathered k.batches) d K.distinct f;
          stored = λ y i. elim (in_append y (batch_of b) (gathered k.batches) i) [ inl j ↦ a y j | inr j ↦ K.stored y j ];
          root = record {
            level = R.level;
            tree = G.tree;
            holds = holds_extends grows G.holds;
            good = G.good;
            exactly = λ y. (
              λ i. elim ((G.exactly y).0 i)
                  [ inl j ↦ in_right y (batch_of b) (gathered k.batches) j | inr j ↦ in_left y (batch_of b) (gathered k.batches) j ],
              λ i. (G.exactly y).1 (elim (in_append y (batch_of b) (gathered k.batches) i) [ inl j ↦ inr j | inr j ↦ inl j ]),
            );
          };
        }

    all_readable : Readable t x s → Readable t larger (store_after x s o)
    unfolding held env_of
    all_readable old p h = side (ltb p.0 x.count) refl
      where
        side : (v : Bool) → ltb p.0 x.count ≡ v → (n : Node) × (fetch_page t larger (store_after x s o) p ≡ fine n)
        side true e = let r = old p (ltb-true p.0 x.count e) in (r.0, stays p r.0 r.1)
        side false e =
            let r = nth_some o (p.0 - x.count) (omega (arith, ltb-false p.0 x.count e)) in
            (r.0, grows p r.0 (rw e r.1))

module _ (size : ℕ) (known : capacity size ≡ 0 → ⊥) where
  after_call :
      (m : Moment) (c : Call) (o : Outcome) → Inv size m → KnownOk (at m) (extent_of m.recorded) m.store (given_root c) →
      Called (at m) (extent_of m.recorded) m.store (gathered (given_root c).batches) (batch_of (given_batch c)) o →
      Inv size (left m c o.answer (store_after (extent_of m.recorded) m.store o.pages))
  after_call m c o I K (refuses {o = pages}) =
      let x = extent_of m.recorded in
      same_pages m m.recorded (store_after x m.store pages) m.heap refl (store_keeps x m.store I.fits pages) (later_agrees {m = m} now) size
      refl refl I.heap I
  after_call m c o I K (accepts {root} {o = pages} d a f R) =
      let t = at m in
      let x = extent_of m.recorded in
      let s = m.store in
      let k = given_root c in
      let b = given_batch c in
      record {
        sized = I.sized;
        fits = fits_after t size known x s I.sized I.fits k b root pages R;
        heap = I.heap;
        order = I.order;
        known = λ j i. elim i [
          | inl e ↦ rw e (new_known t size known x s I.sized I.fits k b root pages R K d a f)
          | inr e ↦ known_kept (stays t size known x s I.sized I.fits k b root pages R) (I.known j e)
        ];
        readable = all_readable t size known x s I.sized I.fits k b root pages R I.readable;
      }

  -- what an insert at a known root is
  pub inserted_at :
      {m : Moment} → Inv size m → (k : Known) → In k m.roots → (b : List ℕ) (scratch : ℕ) → Lent m.store b →
      Inserted (at m) (extent_of m.recorded) m.store scratch (gathered k.batches) b (outcome_of m (inserts k b scratch))
  inserted_at {m} I k i b scratch lent =
      let K = I.known k i in
      rw (insert_call_law m.recorded m.store m.heap I.heap I.order scratch k.root b)
      (insert_ok (at m) (at_laws m) (extent_of m.recorded) m.store (rw I.sized known) I.fits scratch (gathered k.batches) K.stored b
      lent k.root K.root)

  -- what the root that a call is given has, and what the call is
  given_known : {m : Moment} → Inv size m → (c : Call) → Fair m c → KnownOk (at m) (extent_of m.recorded) m.store (given_root c)
  given_known I (inserts k b scratch) F = I.known k F.known
  given_known {m} I (initialises b scratch) F = nothing_known (at m) (extent_of m.recorded) m.store

  pub called_at :
      {m : Moment} → Inv size m → (c : Call) → Fair m c →
      Called (at m) (extent_of m.recorded) m.store (gathered (given_root c).batches) (batch_of (given_batch c)) (outcome_of m c)
  called_at {m} I (inserts k b scratch) F =
      called (at m) (extent_of m.recorded) m.store scratch (gathered k.batches) b F.lent (inserted_at I k F.known b scratch F.lent)
  called_at {m} I (initialises b scratch) F =
      rw (initialise_call_law m.recorded m.store m.heap I.heap I.order scratch b)
      (initialise_ok (at m) (at_laws m) (extent_of m.recorded) m.store (rw I.sized known) I.fits scratch b F.lent)

  next_inv : {m m₁ : Moment} → Next m m₁ → Inv size m → Inv size m₁
  next_inv {m} (calls c F) I = after_call m c (outcome_of m c) I (given_known I c F) (called_at I c F)
  next_inv {m} (appends c) I =
      let w = record_grown_law m.recorded (appending m c).answer in
      same_pages m (appended m c).recorded m.store (appended m c).heap w.0 refl (next_agrees {m = m} (appends c)) size w.1 w.2 (next_heap {m = m} (appends c) I.heap) I
  next_inv {m} (others s h e f) I =
      same_pages m m.recorded s h refl e (next_agrees {m = m} (others s h e f)) size refl refl (next_heap {m = m} (others s h e f) I.heap) I

  inv_from : (s : Start) {m : Moment} → Later (beginning size s) m → Inv size m
  inv_from s now =
      record {
        sized = refl;
        fits = omega arith;
        heap = s.in_good_order;
        order = s.known;
        known = λ k i. elim i [ inl e ↦ rw e (nothing_known (at (beginning size s)) (record { size = size; count = 0 }) s.store) | inr e ↦ absurd e ];
        readable = λ p h. absurd (omega arith);
      }
  inv_from s (next l n) = next_inv n (inv_from s l)

  pub inv : {m : Moment} → History size m → Inv size m
  inv h = inv_from h.0 h.1
