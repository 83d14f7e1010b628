-- Demand 3 of the code as a C program meets it, proved: Caller's CallerDemand3. Rests on Called, Listed and Code.
use Rattle.std.specs.Prelude.{Err, Ok}
use Rattle.answer.specs.Answers.{Answer, Held, done_with, has_begun}
use Rattle.std.specs.Prelude.{ℕ, ◌≤◌, ◌<◌, true, false, List, ◌∷◌, ◌⊎◌, ◌↔◌, ◌≡◌, refl, length}
use Rattle.std.proofs.Common.{arith, inl, inr, sym, ◌∙◌, ap, length-append}
use mathlib.Core.Logic.Iff as Iff
use borrow.Author.Tests.{eq-eqb}
use Rattle.store.specs.declared.PageId.{PageId}
use Rattle.store.specs.declared.StoreRecord.{StoreRecord}
use Rattle.store.specs.Record.{extent_of}
use Rattle.store.specs.Laws.{apart}
use Rattle.store.specs.Words.{word_at}
use Rattle.store.specs.Size.{sizes}
use Rattle.datom.specs.declared.Datom.{Datom}
use Rattle.datom.specs.Datom.{datom_at, datoms_bytes, WordSized}
use Rattle.answer.specs.declared.Refusal.{Refusal}
use Rattle.answer.specs.declared.Refusal.TheVariants.{BadStore, TooMany, BadDatom, OutOfOrder, NoPage, Repeated, Damaged, TooTall, NoRoom, BadBound, BadConstant, HeapFull, BadOrder, NotHeld}
use Rattle.answer.specs.declared.Started.{Started}
use Rattle.answer.specs.Table.{answer_words, held_words}
use Rattle.rules.specs.Store.{bad_store, bad_scratch}
use Rattle.rules.specs.Insert.{batch_of}
use Rattle.rules.specs.Append.{bad_heap}
use Rattle.index.specs.Order.{index_of}
use Rattle.rules.specs.Calls.{is_unknown, record_fault, insert_call, start_call, held_call}
use Rattle.rules.specs.Entry.{word_bytes, reply, insert_reply}
use Rattle.rules.specs.Lists.{In}
use Rattle.rules.proofs.Within.{early_unchanged}
use Rattle.florinwick.specs.Record.{record_in}
use Rattle.florinwick.specs.Cursor.{cursor_bytes}
use Rattle.florinwick.specs.Listing.{start_bytes, start_in, cursor_started, Begins, bounds_given}
use Rattle.history.specs.Statement.{Known, Moment, at, Shared, inserts, Lent, WellFormed, outcome_of, Later, now, History, gathered, HandsOut}
use Rattle.history.specs.More.{FirstShared, FirstNot, Asked}
use Rattle.history.specs.Order.{same_self}
use Rattle.history.proofs.Heap.{at_laws, later_agrees}
use Rattle.history.specs.Batch.{insert_records}
use Rattle.history.proofs.Listing.{later_later}
use Rattle.history.proofs.Asked.{not_in}
use Rattle.history.proofs.Again.{gathered_in}
use Rattle.history.proofs.Base.{base, base_beyond}
use Rattle.demand.specs.Area.{detail_word}
use Rattle.demand.specs.Caller.{Lends, CallerHandsOut, HeldCall, CallerDemand3}
use Rattle.demand.proofs.Called.{AnswerLeft, left_by, writes, runs_on}
use Rattle.demand.specs.Listed.{following, following_steps, heard}

-- 6 is Repeated and nothing else
six_refused : (r : Refusal) → (answer_words (record { 0 = 0 }) (Err r)).number ≡ 6 → (i : ℕ) × (r ≡ Repeated i)
six_refused BadStore e = absurd (omega arith)
six_refused TooMany e = absurd (omega arith)
six_refused (BadDatom i) e = absurd (omega arith)
six_refused (OutOfOrder i) e = absurd (omega arith)
six_refused NoPage e = absurd (omega arith)
six_refused (Repeated i) e = (i, refl)
six_refused (Damaged p f) e = absurd (omega arith)
six_refused TooTall e = absurd (omega arith)
six_refused NoRoom e = absurd (omega arith)
six_refused BadBound e = absurd (omega arith)
six_refused (BadConstant i) e = absurd (omega arith)
six_refused HeapFull e = absurd (omega arith)
six_refused BadOrder e = absurd (omega arith)
six_refused (NotHeld i) e = absurd (omega arith)

six : (root : PageId) (a : Answer) → ((answer_words root a).number ≡ 6) ↔ ((i : ℕ) × (a ≡ Err (Repeated i)))
six root (Ok d) = (λ e. absurd (omega arith), λ w. absurd (apart (cc w.1)))
six root (Err r) = (
  λ e. let w = six_refused r e in (w.0, ap Err w.1),
  λ w. let k : r ≡ Repeated w.0 = cc w.1 in rw k,
)

-- a start with areas in order and two bounds of 32 bytes is the rules' start
module _
    (m : Moment) (whole : bad_heap m.recorded.heap m.heap ≡ false) (in_good_order : bad_store (extent_of m.recorded) m.store ≡ false)
    (known : is_unknown (index_of m.recorded.order) ≡ false) (root : PageId) (lower upper : List ℕ) (l : length lower ≡ 32)
    (u : length upper ≡ 32) (q : List ℕ) (lends : Lends m q) (r : ℕ)
    (a a₁ c c₁ : List ℕ) (answers : length a ≡ 32) (room : length c ≡ 264)
    (B : Begins r a a₁ c c₁ root (start_in (record_in q) m.store m.heap root lower upper c))
  where
    abbrev ruled : Started
    ruled = start_call m.recorded m.store m.heap root (datom_at lower 0) (datom_at upper 0)

    start_is : start_in (record_in q) m.store m.heap root lower upper c ≡ ruled
    unfolding start_in start_bytes record_fault
    start_is =
        rw (lends, eq-eqb (length c) 264 room, whole, in_good_order, known) (sym (bounds_given m.recorded m.store m.heap root lower upper l u))

    module _ (begun : ruled.answer ≡ has_begun) where
      started_zero : r ≡ 0
      started_zero = rw (eq-eqb (length a) 32 answers, start_is, begun) at B.answer.returns

      started_cursor : c₁ ≡ cursor_bytes ruled.cursor
      unfolding cursor_started
      started_cursor = rw (eq-eqb (length a) 32 answers, start_is, begun) at B.cursor

-- the listing of a root, through the bytes
module _
    (size : ℕ) (i : In size sizes) (m : Moment) (h : History size m) (k : Known) (j : In k m.roots) (lower upper : List ℕ)
    (l : length lower ≡ 32) (u : length upper ≡ 32) (lo : (at m).bound (datom_at lower 0) ≡ true) (hi : (at m).bound (datom_at upper 0) ≡ true)
  where
    hands_on : (ds : List Datom) → HandsOut m k (datom_at lower 0) (datom_at upper 0) ds → CallerHandsOut m k lower upper ds
    hands_on ds H m₁ runs short q lends r a a₁ c c₁ answers room B =
        let l₁ = runs_on size i h runs in
        let h₁ : History size m₁ = (h.0, later_later h.1 l₁) in
        let b = start_call m₁.recorded m₁.store m₁.heap k.root (datom_at lower 0) (datom_at upper 0) in
        let Q = base_beyond size i m₁ h₁ k ((base size i m h k j).stays m₁ l₁) in
        let A = later_agrees l₁ in
        let begun = H m₁ l₁ b refl in
        let C = Q.cursors (datom_at lower 0) (datom_at upper 0) (A.bound _ lo) (A.bound _ hi) short b refl in
        let kept = started_cursor m₁ Q.heap_in_order Q.in_good_order Q.order_known k.root lower upper l u q lends r a a₁ c c₁ answers room B begun.0 in (
          started_zero m₁ Q.heap_in_order Q.in_good_order Q.order_known k.root lower upper l u q lends r a a₁ c c₁ answers room B begun.0,
          λ when later n w T f.
              let along : (v : ℕ) → Later m₁ (when v) = λ v. runs_on size i h₁ (later v) in
              let steps = following_steps n when b.cursor in
              heard n when b.cursor C.0 (C.1 when along n (following when b.cursor) steps) ds
              (begun.1 when along n (following when b.cursor) steps f) w (rw kept at T),
        )

-- the receipt for a batch that is sent again
module _
    (size : ℕ) (i : In size sizes) (m : Moment) (h : History size m) (k : Known) (j : In k m.roots) (b : List ℕ) (lent : Lent m.store b)
    (w : WellFormed (at m) b) (scratch : ℕ) (enough : bad_scratch (extent_of m.recorded) scratch ≡ false) (s a : List ℕ)
  where
    first_named :
        (r : ℕ) → AnswerLeft m (inserts k b scratch) r s a → r ≡ 6 →
        FirstShared (at m).cmp (gathered k.batches) (batch_of b) (word_at a 24) × (s ≡ m.store)
    first_named r L e =
        let z = (six k.root (outcome_of m (inserts k b scratch)).answer).0 (sym L.returns ∙ e) in
        let F = ((base_beyond size i m h k j).answered b lent w scratch enough).first z.0 z.1 in
        let words = answer_words k.root (Err (Repeated z.0)) in
        let short : z.0 < 128 = omega (arith, F.index, length-append F.before (F.datom ∷ F.rest), ap length F.batch, w.few) in
        let area : a ≡ word_bytes words = (rw z.1 at L.area) refl in (
          rw (area, detail_word words (omega arith)) F,
          L.store ∙ early_unchanged (at m) (extent_of m.recorded) m.store _ (writes m (inserts k b scratch)) (Repeated z.0) z.1 (λ late. omega (arith, late.0)),
        )

-- the numbers of a batch that is asked for
module _ (Among : Datom → Type 0) (root : PageId) (b : List ℕ) (few : length (batch_of b) ≤ 128) (r : ℕ) (a : List ℕ) where
  abbrev AskedTold : Type 0
  AskedTold = ((r ≡ 0) ↔ ((d : Datom) → In d (batch_of b) → Among d)) × ((r ≡ 0) ⊎ ((r ≡ 16) × FirstNot Among (batch_of b) (word_at a 24)))

  not_held_told : (i : ℕ) → r ≡ 16 → a ≡ word_bytes (held_words root (Err (NotHeld i))) → FirstNot Among (batch_of b) i → AskedTold
  not_held_told i number area F =
      let words = held_words root (Err (NotHeld i)) in
      let short : i < 128 = omega (arith, F.index, length-append F.before (F.datom ∷ F.rest), ap length F.batch, few) in (
        (λ z. absurd (omega arith), λ q. absurd (F.not (q F.datom (not_in F)))),
        inr (number, rw (area, detail_word words (omega arith)) F),
      )

  asked_told : (h : Held) → Asked Among (batch_of b) h → r ≡ (held_words root h).number → a ≡ word_bytes (held_words root h) → AskedTold
  asked_told (Ok u) A number area = ((λ z. A.exactly.0 refl, λ q. number), inl number)
  asked_told (Err q) A number area = elim A.otherwise [
    | inl e ↦ absurd (apart (cc e))
    | inr w ↦
        let k : q ≡ NotHeld w.0 = cc w.1 in
        not_held_told w.0 (rw k at number) (rw k at area) (A.first w.0 w.1)
  ]

asked_call :
    (size : ℕ) → In size sizes → (m : Moment) → History size m → (k : Known) → In k m.roots → (b : List ℕ) (w : WellFormed (at m) b) → (r : ℕ)
    (a a₁ : List ℕ) → HeldCall m k b r a a₁ → AskedTold (Shared (at m).cmp (gathered k.batches)) k.root b w.few r a₁
asked_call size i m h k j b w r a a₁ H =
    let z = eq-eqb (length a) 32 H.answers in
    asked_told (Shared (at m).cmp (gathered k.batches)) k.root b w.few r a₁ (held_call m.recorded m.store m.heap k.root b)
    ((base_beyond size i m h k j).asked b w) (rw (z, H.lends) at H.replied.returns) (rw (z, H.lends) at H.replied.area)

pub caller : CallerDemand3
caller size i s m runs k j =
    let h : History size m = (s, runs_on size i (s, now) runs) in
    let P = base size i m h k j in
    record {
      listed = λ lower upper l u lo hi.
          let w = P.listed (datom_at lower 0) (datom_at upper 0) lo hi in
          (w.0, w.1, hands_on size i m h k j lower upper l u lo hi w.0 w.2);
      stays = λ m₁ l. P.stays m₁ (runs_on size i h l);
      answered = λ b lent w scratch e q lends r s₁ a a₁ n R.
          rw (left_by m q lends (inserts k b scratch) r s₁ a a₁ n R).returns
          (Iff.trans (six k.root (outcome_of m (inserts k b scratch)).answer) (P.answered b lent w scratch e));
      receipt = λ b lent w scratch e q lends r s₁ a a₁ n R.
          first_named size i m h k j b lent w scratch e s₁ a₁ r (left_by m q lends (inserts k b scratch) r s₁ a a₁ n R);
      asked = λ b w r a a₁ H. asked_call size i m h k j b w r a a₁ H;
      keeps = λ b sent w r a a₁ H.
          (asked_call size i m h k j b w r a a₁ H).0.1 λ d v. (d, gathered_in k.batches b sent d v, same_self (at m).cmp (at_laws m) d);
      sound = λ q lends r a a₁ n A. rw (eq-eqb (length a) 32 n, lends, (base_beyond size i m h k j).sound) at A.returns;
    }

-- a call of `florinwick_insert_records` is a call of `florinwick_insert` with the bytes of its records
pub by_caller_records :
    (q : StoreRecord) (s h a : List ℕ) (scratch : ℕ) (root : PageId) (ds : List Datom) → ((d : Datom) → In d ds → WordSized d) →
    reply (extent_of q) s a root (insert_call q s h scratch root ds) ≡ insert_reply q s h scratch root (datoms_bytes ds) a
unfolding insert_reply
by_caller_records q s h a scratch root ds w = rw (insert_records ds w q s h scratch root)
