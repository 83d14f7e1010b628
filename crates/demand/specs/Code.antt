-- Demand 3 of the code, for a caller in Rattle: calls that are known by their promises alone are calls of a history, so what Statement
-- says of a history holds of what the code did.
use Rattle.std.specs.Prelude.{Err, Ok}
use Rattle.answer.specs.Answers.{Answer, Append, Check, Held, has_begun, is_sound}
use Rattle.std.specs.Prelude.{ℕ, ◌<◌, true, false, List, ◌↔◌, ◌≡◌, refl, length}
use Rattle.std.proofs.Common.{arith, sym, ◌∙◌}
use Rattle.store.specs.declared.PageId.{PageId}
use Rattle.store.specs.declared.StoreRecord.{StoreRecord}
use Rattle.store.specs.Record.{extent_of}
use Rattle.store.specs.Size.{sizes}
use Rattle.store.specs.Laws.{apart}
use Rattle.datom.specs.declared.Datom.{Datom}
use Rattle.datom.specs.Datom.{datoms_bytes, WordSized}
use Rattle.datom.specs.Content.{names}
use Rattle.answer.specs.declared.Refusal.{Refusal}
use Rattle.answer.specs.declared.Refusal.TheVariants.{Repeated}
use Rattle.answer.specs.declared.Started.{Started}
use Rattle.answer.specs.declared.Stepped.{Stepped}
use Rattle.rules.specs.Store.{or_else, bad_scratch, env_of}
use Rattle.rules.specs.Insert.{Outcome, refuse, batch_of}
use Rattle.rules.specs.Lookup.{Finding, clear, found}
use Rattle.rules.specs.Calls.{ord_of, record_fault, bad_room, record_grown, insert_call, initialise_call, insert_bytes_call, initialise_bytes_call, start_call, held_call, check_call}
use Rattle.rules.specs.Listing.{whole}
use Rattle.rules.specs.Lists.{In}
use Rattle.rules.proofs.Within.{Late, Writes, insert_writes, initialise_writes, insert_bytes_writes, initialise_bytes_writes, early_unchanged}
use Rattle.entry.specs.Reply.{Replies}
use Rattle.append.specs.Answers.{Appends}
use Rattle.history.specs.Statement.{Known, Moment, at, Start, Call, inserts, Constant, appending, beginning, Lent, Fair, left, outcome_of, Next, Later, now, next, History, gathered, Between, StepsAlong, handed, WellFormed, Shared}
use Rattle.history.specs.Statement as history
use Rattle.history.specs.More.{Asked}
use Rattle.history.specs.Order.{same_self}
use Rattle.history.proofs.Heap.{at_laws}
use Rattle.history.specs.Batch.{insert_records, initialise_records}
use Rattle.history.proofs.Base.{base, base_beyond, shared_same}
use Rattle.demand.specs.Runs.{SameBelow, SameConstants, changed, Runs, start, then}

-- a call of `entry::insert` or `entry::initialise`, by its promise: it answered a and left the bytes s
abbrev pub Gave : Moment → Call → Answer → List ℕ → Type 0
Gave m c a s = Replies (extent_of m.recorded) m.store s a (outcome_of m c)

-- where `append::append_u64` or `append::append_bytes` leaves things, by its answer and the heap's bytes
abbrev pub grown : Moment → Append → List ℕ → Moment
grown m a h = record { recorded = record_grown m.recorded a; store = m.store; heap = h; roots = m.roots }

-- what may happen between two moments: a call of the code, or an append, by their promises; or somebody else, at or past the count and
-- the heap's length
pub data CodeMove (m : Moment) : Moment → Type 0 where
  ran : (c : Call) → Fair m c → (a : Answer) (s : List ℕ) → Gave m c a s → CodeMove m (left m c a s)
  stored : (c : Constant) (a : Append) (h : List ℕ) → Appends m.heap h m.recorded.heap a (appending m c) → CodeMove m (grown m a h)
  others : (s h : List ℕ) → SameBelow m s → SameConstants m h → CodeMove m (changed m s h)

move_next : {m m₁ : Moment} → CodeMove m m₁ → Next m m₁
move_next (ran c F a s R) = rw (R.answer, R.store) (history.calls c F)
move_next (stored c a h R) = rw (R.answer, R.heap) (history.appends c)
move_next (others s h e f) = history.others s h e f

pub runs_later : {m m₁ : Moment} → Runs CodeMove m m₁ → Later m m₁
runs_later start = now
runs_later (then l c) = next (runs_later l) (move_next c)

-- "hands out .., and ends": b is what `listing::start` gave at any later moment, r what `listing::step` gave, each at a moment later still
abbrev pub CodeHandsOut : Moment → Known → Datom → Datom → List Datom → Type 0
CodeHandsOut m k lo hi ds =
    (m₁ : Moment) → Runs CodeMove m m₁ → (b : Started) → b ≡ start_call m₁.recorded m₁.store m₁.heap k.root lo hi →
    (b.answer ≡ has_begun)
    × ((when : ℕ → Moment) → ((i : ℕ) → Runs CodeMove m₁ (when i)) → (n : ℕ) (r : ℕ → Stepped) → StepsAlong when n b.cursor r → length ds < n →
    handed n r ≡ whole ds)

-- what a caller of the code is promised of a root
pub record CodePromise (m : Moment) (k : Known) : Type 0 where
  pub listed :
      (lo hi : Datom) → (at m).bound lo ≡ true → (at m).bound hi ≡ true →
      (ds : List Datom) × Between (at m).cmp lo hi (gathered k.batches) ds × CodeHandsOut m k lo hi ds
  pub stays : (m₁ : Moment) → Runs CodeMove m m₁ → In k m₁.roots
  pub answered :
      (b : List ℕ) → Lent m.store b → WellFormed (at m) b → (scratch : ℕ) → bad_scratch (extent_of m.recorded) scratch ≡ false →
      (a : Answer) (s : List ℕ) → Gave m (inserts k b scratch) a s →
      ((i : ℕ) × (a ≡ Err (Repeated i))) ↔ ((d : Datom) × In d (batch_of b) × Shared (at m).cmp (gathered k.batches) d)
  -- and by `held::held`: held exactly if every datom is equal to one of those that led to the root, and else the first that is not
  pub asked :
      (b : List ℕ) → WellFormed (at m) b → (a : Held) → a ≡ held_call m.recorded m.store m.heap k.root b →
      Asked (Shared (at m).cmp (gathered k.batches)) (batch_of b) a
  -- and by `invariants::check`
  pub sound : (a : Check) → a ≡ check_call m.recorded m.store m.heap k.root → a ≡ is_sound

-- where no value of a batch names a constant, "shares a datom" is meant literally
module _ (m : Moment) (u : List Datom) (f : (y : Datom) → In y u → (at m).stored y ≡ true) where
  pub same_datom : (d : Datom) → (at m).stored d ≡ true → names d.value ≡ false → Shared (at m).cmp u d ↔ In d u
  same_datom d g n = (shared_same m u d f g n, λ i. (d, i, same_self (at m).cmp (at_laws m) d))

  pub literal :
      (b : List Datom) → ((y : Datom) → In y b → (at m).stored y ≡ true) → ((y : Datom) → In y b → names y.value ≡ false) →
      ((d : Datom) × In d b × Shared (at m).cmp u d) ↔ ((d : Datom) × In d b × In d u)
  literal b g n = (
    λ w. (w.0, w.1, (same_datom w.0 (g w.0 w.1) (n w.0 w.1)).0 w.2),
    λ w. (w.0, w.1, (same_datom w.0 (g w.0 w.1) (n w.0 w.1)).1 w.2),
  )

-- the theorem: what the code did, from no pages and no root on, is as promised
abbrev pub CodeDemand3 : Type 0
CodeDemand3 =
    (size : ℕ) → In size sizes → (s : Start) (m : Moment) → Runs CodeMove (beginning size s) m → (k : Known) → In k m.roots → CodePromise m k

pub code : CodeDemand3
code size i s m c k j =
    let h : History size m = (s, runs_later c) in
    let P = base size i m h k j in
    record {
      listed = λ lo hi a b.
          let w = P.listed lo hi a b in
          (w.0, w.1, λ m₁ l r e. let q = w.2 m₁ (runs_later l) r e in (q.0, λ when later. q.1 when (λ x. runs_later (later x))));
      stays = λ m₁ l. P.stays m₁ (runs_later l);
      answered = λ b lent w scratch e a s₁ R.
          rw R.answer (P.answered b lent w scratch e);
      asked = λ b w a e. rw e ((base_beyond size i m h k j).asked b w);
      sound = λ a e. e ∙ (base_beyond size i m h k j).sound;
    }

-- a call of `records::insert` or `records::initialise` is a call with the bytes of its records
module _ (q : StoreRecord) (s s₁ h : List ℕ) (a : Answer) (scratch : ℕ) (ds : List Datom) (w : (d : Datom) → In d ds → WordSized d) where
  pub by_records :
      (root : PageId) → Replies (extent_of q) s s₁ a (insert_call q s h scratch root ds) →
      Replies (extent_of q) s s₁ a (insert_bytes_call q s h scratch root (datoms_bytes ds))
  by_records root R = rw (insert_records ds w q s h scratch root) R

  pub by_records_fresh :
      Replies (extent_of q) s s₁ a (initialise_call q s h scratch ds) →
      Replies (extent_of q) s s₁ a (initialise_bytes_call q s h scratch (datoms_bytes ds))
  by_records_fresh R = rw (initialise_records ds w q s h scratch) R

-- what a call writes is what it writes by its own rules: nothing is written where the record brings a refusal
pub call_writes :
    (n : ℕ) (q : StoreRecord) (s h : List ℕ) (scratch : ℕ) (o : Outcome) → Writes n o →
    Writes n (or_else refuse (record_fault q h (bad_room q s scratch)) o)
call_writes n q s h scratch o w = side (record_fault q h (bad_room q s scratch))
  where
    side : (f : Finding) → Writes n (or_else refuse f o)
    side (found r) = record { fits = omega arith; counted = λ root k f. absurd (apart (cc)); early = λ r f l. refl }
    side clear = w

-- "1 to 6 and 10 change no byte of the store.", and neither does 11: of `entry::insert` and `entry::initialise`, `records::insert` and
-- `records::initialise`
module _ (q : StoreRecord) (s s₁ h : List ℕ) (r : Refusal) (early : Late r → ⊥) (scratch : ℕ) where
  unchanged : (o : Outcome) → Writes (env_of (ord_of q h) (extent_of q) s).allow o → Replies (extent_of q) s s₁ (Err r) o → s₁ ≡ s
  unchanged o w R = R.store ∙ early_unchanged (ord_of q h) (extent_of q) s o w r (sym R.answer) early

  pub insert_unchanged : (root : PageId) (b : List ℕ) → Replies (extent_of q) s s₁ (Err r) (insert_bytes_call q s h scratch root b) → s₁ ≡ s
  unfolding insert_bytes_call
  insert_unchanged root b = unchanged _ (call_writes _ q s h scratch _ (insert_bytes_writes (ord_of q h) (extent_of q) s scratch root b))

  pub initialise_unchanged : (b : List ℕ) → Replies (extent_of q) s s₁ (Err r) (initialise_bytes_call q s h scratch b) → s₁ ≡ s
  unfolding initialise_bytes_call
  initialise_unchanged b = unchanged _ (call_writes _ q s h scratch _ (initialise_bytes_writes (ord_of q h) (extent_of q) s scratch b))

  pub insert_records_unchanged : (root : PageId) (ds : List Datom) → Replies (extent_of q) s s₁ (Err r) (insert_call q s h scratch root ds) → s₁ ≡ s
  unfolding insert_call
  insert_records_unchanged root ds = unchanged _ (call_writes _ q s h scratch _ (insert_writes (ord_of q h) (extent_of q) s scratch root ds))

  pub initialise_records_unchanged : (ds : List Datom) → Replies (extent_of q) s s₁ (Err r) (initialise_call q s h scratch ds) → s₁ ≡ s
  unfolding initialise_call
  initialise_records_unchanged ds = unchanged _ (call_writes _ q s h scratch _ (initialise_writes (ord_of q h) (extent_of q) s scratch ds))
