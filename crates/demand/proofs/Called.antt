-- Where a C program goes on by what a call left is where the history goes on. Rests on Area and on what is proved beyond demand 3.
use Rattle.std.specs.Prelude.{Ok}
use Rattle.std.specs.Prelude.{Err}
use Rattle.answer.specs.Answers.{Answer, Append, done_with, stored_as}
use Rattle.std.specs.Prelude.{ℕ, ◌+◌, ◌^◌, ◌≤◌, ◌<◌, Bool, true, false, cond, List, ◌∷◌, ◌≡◌, refl, eqb, ltb, length}
use Rattle.std.proofs.Common.{add-zero, mul-le-mul_left, arith, inl, ◌∙◌, ap, eq-eqb, ne_eqb, eqb-true, ltb-true}
use Rattle.store.specs.declared.PageId.{PageId}
use Rattle.store.specs.declared.Extent.{Extent}
use Rattle.store.specs.Words.{word_at}
use Rattle.store.specs.Record.{extent_of}
use Rattle.store.specs.Size.{sizes}
use Rattle.store.specs.Page.{is_none}
use Rattle.store.specs.Laws.{apart}
use Rattle.answer.specs.declared.Refusal.{Refusal}
use Rattle.answer.specs.declared.Refusal.TheVariants.{BadStore, TooMany, BadDatom, OutOfOrder, NoPage, Repeated, Damaged, TooTall, NoRoom, BadBound, BadConstant, HeapFull, BadOrder, NotHeld}
use Rattle.datom.specs.declared.Value.{Value}
use Rattle.answer.specs.Names.{fault_in}
use Rattle.answer.specs.Named.{unnamed_words}
use Rattle.answer.specs.Table.{number_of, answer_words, named_answer, append_words}
use Rattle.rules.specs.Store.{bad_root, env_of, store_after}
use Rattle.rules.specs.Entry.{word_bytes, reply, reply_in, insert_reply, insert_named_reply, initialise_reply}
use Rattle.rules.specs.Append.{heap_after}
use Rattle.rules.specs.Appended.{heap_in}
use Rattle.rules.specs.Calls.{insert_bytes_call, initialise_bytes_call}
use Rattle.rules.specs.Lists.{In}
use Rattle.rules.proofs.Within.{Writes, insert_bytes_writes, initialise_bytes_writes, written_fits}
use Rattle.memory_store.specs.FetchLaws.{InOrder, in_order}
use Rattle.florinwick.specs.Words.{Replied}
use Rattle.florinwick.specs.Append.{HeapReplied}
use Rattle.history.specs.Statement.{Known as Root, Moment, at, Constant, appending, appended, appends, Call, inserts, initialises, given_root, given_batch, no_root, Fair, outcome_of, after, calls, Later, now, next, History}
use Rattle.history.specs.Statement as history
use Rattle.history.proofs.Heap.{append_keeps}
use Rattle.history.proofs.Listing.{later_later}
use Rattle.history.proofs.Demand.{later_known}
use Rattle.history.proofs.Base.{base_beyond}
use Rattle.demand.specs.Area.{root_word, pages_word}
use Rattle.demand.specs.Code.{call_writes}
use Rattle.demand.specs.Caller.{Lends, reply_to, Wrote, plainly, named, going_on, grows_on, CallerMove, ran, stored, others}
use Rattle.demand.specs.Runs.{Runs, start, then}

-- a root is none or a page below the count, so 64 bits hold it
root_small : (x : Extent) (root : PageId) → bad_root x root ≡ false → x.count < 2 ^ 64 → root.0 < 2 ^ 64
unfolding bad_root is_none
root_small x root e h = side (eqb root.0 0xffff_ffff_ffff_ffff) refl (ltb root.0 x.count) refl
  where
    side : (a : Bool) → eqb root.0 0xffff_ffff_ffff_ffff ≡ a → (b : Bool) → ltb root.0 x.count ≡ b → root.0 < 2 ^ 64
    side true p b q = omega (arith, eqb-true root.0 0xffff_ffff_ffff_ffff p)
    side false p true q = omega (arith, ltb-true root.0 x.count q)
    side false p false q = let k : true ≡ false = rw (p, q) at e in absurd (apart (cc))

-- what a call is answered and leaves
reply_is : (m : Moment) (q : List ℕ) → Lends m q → (c : Call) (a : List ℕ) → reply_to m q c a ≡ reply (extent_of m.recorded) m.store a (given_root c).root (outcome_of m c)
unfolding insert_reply initialise_reply
reply_is m q l (inserts k b scratch) a = rw l
reply_is m q l (initialises b scratch) a = rw l

pub writes : (m : Moment) (c : Call) → Writes (env_of (at m) (extent_of m.recorded) m.store).allow (outcome_of m c)
unfolding insert_bytes_call initialise_bytes_call
writes m (inserts k b scratch) =
    call_writes _ m.recorded m.store m.heap scratch _ (insert_bytes_writes (at m) (extent_of m.recorded) m.store scratch k.root b)
writes m (initialises b scratch) =
    call_writes _ m.recorded m.store m.heap scratch _ (initialise_bytes_writes (at m) (extent_of m.recorded) m.store scratch b)

-- the number of the fault that an answer names, 0 where it names none
abbrev pub fault_of : Answer → ℕ
fault_of (Ok d) = 0
fault_of (Err r) = fault_in r

-- by the answer's own words; where it names a fault, the third may tell it
pub record AnswerLeft (m : Moment) (c : Call) (r : ℕ) (s a₁ : List ℕ) : Type 0 where
  pub returns : r ≡ (answer_words (given_root c).root (outcome_of m c).answer).number
  pub store : s ≡ store_after (extent_of m.recorded) m.store (outcome_of m c).pages
  pub area : fault_of (outcome_of m c).answer ≡ 0 → a₁ ≡ word_bytes (answer_words (given_root c).root (outcome_of m c).answer)

-- both tellings of an answer: one number, and the same words where no fault is named
named_number : (root : PageId) (a : Answer) → (named_answer root a).number ≡ (answer_words root a).number
named_number root (Ok d) = refl
named_number root (Err r) = refl

named_words_law : (root : PageId) (a : Answer) → fault_of a ≡ 0 → named_answer root a ≡ answer_words root a
named_words_law root (Ok d) e = refl
named_words_law root (Err r) e = unnamed_words root.0 r e

pub left_by : (m : Moment) (q : List ℕ) → Lends m q → (c : Call) (r : ℕ) (s a a₁ : List ℕ) → length a ≡ 32 → Wrote m q r s a a₁ c → AnswerLeft m c r s a₁
unfolding reply_in insert_named_reply
left_by m q l c r s a a₁ h (plainly R) =
    let Q : Replied r s a₁ (reply (extent_of m.recorded) m.store a (given_root c).root (outcome_of m c)) = rw (reply_is m q l c a) at R in
    let k = eq-eqb (length a) 32 h in
    record { returns = rw k at Q.returns; store = rw k at Q.store; area = λ e. rw k at Q.area }
left_by m q l (inserts root b scratch) r s a a₁ h (named P) =
    let Q : Replied r s a₁ (reply_in (named_answer root.root) (extent_of m.recorded) m.store a (outcome_of m (inserts root b scratch))) = rw l at P in
    let k = eq-eqb (length a) 32 h in
    let told = (outcome_of m (inserts root b scratch)).answer in
    record {
      returns = (rw k at Q.returns) ∙ named_number root.root told;
      store = rw k at Q.store;
      area = λ e. (rw k at Q.area) ∙ ap word_bytes (named_words_law root.root told e);
    }

-- the same count, bytes and roots: the same moment
moment_same :
    {size used order c c₁ : ℕ} {h s s₁ : List ℕ} {ks ks₁ : List Root} → c ≡ c₁ → s ≡ s₁ → ks ≡ ks₁ →
    ◌≡◌ {A = Moment}
    (record { recorded = record { size = size; count = c; heap = used; order = order }; store = s; heap = h; roots = ks })
    (record { recorded = record { size = size; count = c₁; heap = used; order = order }; store = s₁; heap = h; roots = ks₁ })
moment_same e f g = rw (e, f, g)

-- the same heap
heap_same :
    {size count order n n₁ : ℕ} {s h h₁ : List ℕ} {ks : List Root} → n ≡ n₁ → h ≡ h₁ →
    ◌≡◌ {A = Moment}
    (record { recorded = record { size = size; count = count; heap = n; order = order }; store = s; heap = h; roots = ks })
    (record { recorded = record { size = size; count = count; heap = n₁; order = order }; store = s; heap = h₁; roots = ks })
heap_same e f = rw (e, f)

refused_number : (r : Refusal) → number_of r ≡ 0 → ⊥
refused_number BadStore e = omega arith
refused_number TooMany e = omega arith
refused_number (BadDatom i) e = omega arith
refused_number (OutOfOrder i) e = omega arith
refused_number NoPage e = omega arith
refused_number (Repeated i) e = omega arith
refused_number (Damaged p f) e = omega arith
refused_number TooTall e = omega arith
refused_number NoRoom e = omega arith
refused_number BadBound e = omega arith
refused_number (BadConstant i) e = omega arith
refused_number HeapFull e = omega arith
refused_number BadOrder e = omega arith
refused_number (NotHeld i) e = omega arith

-- where an append leaves things, by the number that was returned and the words in the area
module _ (m : Moment) (c : Constant) (short : length m.heap < 2 ^ 64) where
  abbrev gives : Append
  gives = (appending m c).answer

  -- 64 bits hold the bytes that were appended
  stored_small : (v : Value) (k : ℕ) → gives ≡ stored_as v k → k < 2 ^ 64
  stored_small v k e =
      let K = append_keeps m c in
      omega (arith, K.slice, (heap_in (m.recorded.heap + k) (heap_after m.heap m.recorded.heap (appending m c)) (K.good v k e)).0)

  grows_on_law :
      (r : ℕ) (h a a₁ : List ℕ) → length a ≡ 32 → HeapReplied r a a₁ m.heap h m.recorded.heap (appending m c) → grows_on m r h a₁ ≡ appended m c
  grows_on_law r h a a₁ e R =
      let k = eq-eqb (length a) 32 e in
      side gives refl (rw k at R.heap) (rw k at R.answer.returns) (rw k at R.answer.area)
    where
      side :
          (w : Append) → gives ≡ w → h ≡ heap_after m.heap m.recorded.heap (appending m c) → r ≡ (append_words gives).number →
          a₁ ≡ word_bytes (append_words gives) → grows_on m r h a₁ ≡ appended m c
      side (Ok s) q z number area =
          let v = s.value in
          let k = s.bytes in
          let zero : r ≡ 0 = rw q at number in
          let words = append_words (stored_as v k) in
          let told : a₁ ≡ word_bytes words = rw q at area in
          let bytes : word_at a₁ 16 ≡ k = rw told (pages_word words (stored_small v k q)) in
          let grows : cond (eqb r 0) (word_at a₁ 16) 0 ≡ k = rw (zero, bytes) in
          rw q (heap_same (ap (λ (x : ℕ). m.recorded.heap + x) grows) z)
      side (Err f) q z number area =
          let told : r ≡ number_of f = rw q at number in
          let other : eqb r 0 ≡ false = rw (told, ne_eqb (number_of f) 0 (refused_number f)) in
          let stays : cond (eqb r 0) (word_at a₁ 16) 0 ≡ 0 = rw other in
          rw q (heap_same (ap (λ (x : ℕ). m.recorded.heap + x) stays ∙ add-zero m.recorded.heap) z)

module _ (size : ℕ) (known : In size sizes) where
  ready : (m : Moment) → History size m → InOrder (extent_of m.recorded) m.store
  ready m h = in_order (extent_of m.recorded) m.store (base_beyond size known m h no_root (later_known h.1 no_root (inl refl))).in_good_order

  module _ (m : Moment) (h : History size m) (c : Call) (F : Fair m c) where
    abbrev answer : Answer
    answer = (outcome_of m c).answer

    -- 64 bits hold what Done says
    done_small : (root : PageId) (n : ℕ) → answer ≡ done_with root n → (root.0 < 2 ^ 64) × (n < 2 ^ 64)
    done_small root n e =
        let S = ready m h in
        let pos : 0 < m.recorded.size = omega (arith, S.known.fits) in
        let W = writes m c in
        let f = written_fits (at m) (extent_of m.recorded) m.store (outcome_of m c) W pos S.holds in
        let k : m.recorded.count + n ≤ length m.store =
        omega (arith, W.counted root n e, mul-le-mul_left {m = 1} {n = m.recorded.size} (m.recorded.count + length (outcome_of m c).pages) pos) in
        let new : In (record { root = root; batches = given_batch c ∷ (given_root c).batches }) (after m c).roots = rw e (inl refl) in
        let B = (base_beyond size known (after m c) (h.0, next h.1 (calls c F)) _ new).known in (
          root_small (record { size = m.recorded.size; count = m.recorded.count + n }) root (rw e at B) (omega (arith, F.lent.short)),
          omega (arith, F.lent.short),
        )

    goes_on : (r : ℕ) (s a : List ℕ) → AnswerLeft m c r s a → going_on m c r s a ≡ after m c
    goes_on r s a L = side answer refl
      where
        side : (w : Answer) → answer ≡ w → going_on m c r s a ≡ after m c
        side (Ok d) e =
            let root = d.root in
            let n = d.pages in
            let small = done_small root n e in
            let words = answer_words (given_root c).root (done_with root n) in
            let number : r ≡ 0 = rw e at L.returns in
            let area : a ≡ word_bytes words = (rw e at L.area) refl in
            let top : word_at a 8 ≡ root.0 = rw area (root_word words small.0) in
            let pages : word_at a 16 ≡ n = rw area (pages_word words small.1) in
            let grows : cond (eqb r 0) (word_at a 16) 0 ≡ n = rw (number, pages) in
            rw e (moment_same (ap (λ (k : ℕ). m.recorded.count + k) grows) L.store (rw (number, top)))
        side (Err q) e =
            let number : r ≡ number_of q = rw e at L.returns in
            let other : eqb r 0 ≡ false = rw (number, ne_eqb (number_of q) 0 (refused_number q)) in
            let stays : cond (eqb r 0) (word_at a 16) 0 ≡ 0 = rw other in
            rw e (moment_same (ap (λ (k : ℕ). m.recorded.count + k) stays ∙ add-zero m.recorded.count) L.store (rw other))

  -- so a run of a C program is a history
  pub runs_on : {m m₁ : Moment} → History size m → Runs CallerMove m m₁ → Later m m₁
  runs_on h start = now
  runs_on h (then {m₁} l (ran c F q lends r s a a₁ e R)) =
      let l₁ = runs_on h l in
      rw (goes_on m₁ (h.0, later_later h.1 l₁) c F r s a₁ (left_by m₁ q lends c r s a a₁ e R)) (next l₁ (calls c F))
  runs_on h (then {m₁} l (stored c short r z a a₁ e R)) = rw (grows_on_law m₁ c short r z a a₁ e R) (next (runs_on h l) (appends c))
  runs_on h (then l (others s z e f)) = next (runs_on h l) (history.others s z e f)
