-- The record and the heap along a history: the order that the record names stays, no byte of the heap in use changes, it stays in order, and
-- the order of a later moment agrees with that of an earlier one. Rests on After and on the laws of appends.
use Rattle.std.specs.Prelude.{Ok}
use Rattle.std.specs.Prelude.{Err}
use Rattle.answer.specs.Answers.{Answer, Append, done_with, stored_as}
use Rattle.std.specs.Prelude.{ℕ, ◌≤◌, false, List, ◌≡◌, refl, take, drop}
use Rattle.std.proofs.Common.{arith, ◌∙◌, take-add}
use Rattle.store.specs.declared.StoreRecord.{StoreRecord}
use Rattle.index.specs.Order.{DatomOrd}
use Rattle.index.proofs.Laws.{Preorder, order_preorder}
use Rattle.index.specs.Form.{order_may}
use Rattle.index.proofs.Agree.{Agrees, order_grows}
use Rattle.rules.specs.Append.{bad_heap, Appending, heap_after}
use Rattle.rules.specs.Appended.{heap_in, heap_good, Keeps, word_keeps, text_keeps}
use Rattle.rules.specs.Calls.{used_heap, order_for, ord_of, record_after, record_grown}
use Rattle.history.specs.Statement.{Moment, at, Constant, integer, text, appending, outcome_of, Next, calls, appends, others, Later, now, next}
use Rattle.history.specs.After.{long_enough}

-- the laws of a moment's order
pub at_laws : (m : Moment) → Preorder (at m).cmp
at_laws m = order_preorder (order_for m.recorded) (used_heap m.recorded m.heap)

-- an order agrees with itself, and with what agrees with one that agrees with it
agrees_self : (r : StoreRecord) (h : List ℕ) → Agrees (ord_of r h) (ord_of r h)
agrees_self r h =
    record { may = order_may (order_for r) (used_heap r h); formed = λ d p. p; stored = λ d p. p; bound = λ d p. p; cmp = λ a b p q. refl }

agrees_then : {t u v : DatomOrd} → Agrees t u → Agrees u v → Agrees t v
agrees_then A B =
    record {
      may = A.may;
      formed = λ d p. B.formed d (A.formed d p);
      stored = λ d p. B.stored d (A.stored d p);
      bound = λ d p. B.bound d (A.bound d p);
      cmp = λ a b p q. B.cmp a b (A.bound a p) (A.bound b q) ∙ A.cmp a b p q;
    }

-- a call that writes hands the heap's length and the order on, and more pages or as many
pub record Handed (r r₁ : StoreRecord) : Type 0 where
  pub size : r₁.size ≡ r.size
  pub count : r.count ≤ r₁.count
  pub heap : r₁.heap ≡ r.heap
  pub order : r₁.order ≡ r.order

pub record_after_law : (r : StoreRecord) (a : Answer) → Handed r (record_after r a)
record_after_law r (Ok d) = record { size = refl; count = omega arith; heap = refl; order = refl }
record_after_law r (Err f) = record { size = refl; count = omega arith; heap = refl; order = refl }

-- an append keeps what the record says of pages, and the order
pub record_grown_law :
    (r : StoreRecord) (a : Append) → ((record_grown r a).size ≡ r.size) × ((record_grown r a).count ≡ r.count) × ((record_grown r a).order ≡ r.order)
record_grown_law r (Ok s) = (refl, refl, refl)
record_grown_law r (Err f) = (refl, refl, refl)

-- an append keeps the heap in use, and adds to it
pub append_keeps : (m : Moment) (c : Constant) → Keeps m.heap m.recorded.heap (appending m c)
append_keeps m (integer w) = word_keeps m.heap m.recorded.heap w
append_keeps m (text b) = text_keeps m.heap m.recorded.heap b

module _ (r : StoreRecord) (h : List ℕ) (a : Appending) (K : Keeps h r.heap a) where
  grown_agrees : (o : Append) → Agrees (ord_of r h) (ord_of (record_grown r o) (heap_after h r.heap a))
  grown_agrees (Ok s) =
      let k = s.bytes in
      let g = heap_after h r.heap a in
      rw (take-add r.heap k g, K.below) (order_grows (order_for r) (take r.heap h) (take k (drop r.heap g)))
  grown_agrees (Err f) = rw K.below (agrees_self r h)

  grown_good : bad_heap r.heap h ≡ false → (o : Append) → a.answer ≡ o → bad_heap (record_grown r o).heap (heap_after h r.heap a) ≡ false
  grown_good b (Ok s) e = K.good s.value s.bytes e
  grown_good b (Err f) e = rw (K.refused f e) b

pub next_agrees : {m m₁ : Moment} → Next m m₁ → Agrees (at m) (at m₁)
next_agrees {m} (calls c F) =
    let H = record_after_law m.recorded (outcome_of m c).answer in
    rw (H.heap, H.order) (agrees_self m.recorded m.heap)
next_agrees {m} (appends c) = grown_agrees m.recorded m.heap (appending m c) (append_keeps m c) (appending m c).answer
next_agrees {m} (others s h e f) = rw f (agrees_self m.recorded m.heap)

-- "The heap only grows": the order of a later moment agrees with that of an earlier one
pub later_agrees : {m m₁ : Moment} → Later m m₁ → Agrees (at m) (at m₁)
later_agrees {m} now = agrees_self m.recorded m.heap
later_agrees (next l n) = agrees_then (later_agrees l) (next_agrees n)

-- the order's number stays
next_order : {m m₁ : Moment} → Next m m₁ → m₁.recorded.order ≡ m.recorded.order
next_order {m} (calls c F) = (record_after_law m.recorded (outcome_of m c).answer).order
next_order {m} (appends c) = (record_grown_law m.recorded (appending m c).answer).2
next_order (others s h e f) = refl

pub later_order : {m m₁ : Moment} → Later m m₁ → m₁.recorded.order ≡ m.recorded.order
later_order now = refl
later_order (next l n) = next_order n ∙ later_order l

-- the heap stays in order
pub next_heap : {m m₁ : Moment} → Next m m₁ → bad_heap m.recorded.heap m.heap ≡ false → bad_heap m₁.recorded.heap m₁.heap ≡ false
next_heap {m} (calls c F) b = rw (record_after_law m.recorded (outcome_of m c).answer).heap b
next_heap {m} (appends c) b = grown_good m.recorded m.heap (appending m c) (append_keeps m c) b (appending m c).answer refl
next_heap {m} (others s h e f) b =
    let w = heap_in m.recorded.heap m.heap b in
    heap_good m.recorded.heap h (long_enough m.recorded.heap m.heap h f w.0) w.1
