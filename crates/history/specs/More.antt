-- What is proved of a history beyond demand 3: which datom Repeated names and what else is answered, that words of 64 bits hold every
-- cursor, that the check finds no fault and every page can be read, when a batch is held, and what becomes of one that is sent again,
-- after the heap has grown too.
-- Rests on Statement; Demand, Asked and Again prove it.
use Rattle.std.specs.Prelude.{Err, Ok}
use Rattle.answer.specs.Answers.{Answer, Held, all_held, done_with, is_sound}
use Prim.Native.Nat.{ℕ, zero, suc, ◌^◌, ◌<◌, Ordering}
use Rattle.std.specs.Prelude.{true, false, List, ◌∷◌, ◌++◌, ◌⊎◌, ◌↔◌, ◌≡◌, length}
use Rattle.store.specs.declared.PageId.{PageId}
use Rattle.datom.specs.declared.Datom.{Datom}
use Rattle.answer.specs.declared.Refusal.TheVariants.{Repeated, TooTall, NoRoom, NotHeld}
use Rattle.answer.specs.declared.Started.{Started}
use Rattle.answer.specs.declared.Stepped.{Stepped}
use Rattle.answer.specs.Fit.{CursorFits}
use Rattle.rules.specs.Page.{Node}
use Rattle.rules.specs.Tree.{fine}
use Rattle.rules.specs.Store.{bad_store, bad_scratch, bad_root, fetch_page}
use Rattle.rules.specs.Insert.{batch_of}
use Rattle.rules.specs.Append.{bad_heap}
use Rattle.index.specs.Order.{index_of}
use Rattle.rules.specs.Calls.{extent_of, is_unknown, held_call, start_call, check_call}
use Rattle.rules.specs.Lists.{In}
use Rattle.history.specs.Statement.{Known, Moment, at, Call, inserts, given_root, given_batch, Lent, Fair, outcome_of, after, Later, History, gathered, StepsAlong, WellFormed, Shared}

-- datom i of a batch is the first of it that is shared
pub record FirstShared (cmp : Datom → Datom → Ordering) (u b : List Datom) (i : ℕ) : Type 0 where
  pub before : List Datom
  pub datom : Datom
  pub rest : List Datom
  pub batch : b ≡ before ++ (datom ∷ rest)
  pub index : length before ≡ i
  pub shared : Shared cmp u datom
  pub first : (d : Datom) → In d before → Shared cmp u d → ⊥

-- a well-formed batch b, answered a at a root that the datoms u led to: Repeated names the first that is shared, and else the answer is
-- Done, TooTall or NoRoom, so never Damaged
pub record Answered (cmp : Datom → Datom → Ordering) (u b : List Datom) (a : Answer) : Type 0 where
  pub first : (i : ℕ) → a ≡ Err (Repeated i) → FirstShared cmp u b i
  pub otherwise :
      ((d : Datom) → In d b → Shared cmp u d → ⊥) →
      ((root : PageId) × (n : ℕ) × (a ≡ done_with root n)) ⊎ ((a ≡ Err TooTall) ⊎ (a ≡ Err NoRoom))

-- datom i of a batch is the first of it that is not as said
pub record FirstNot (P : Datom → Type 0) (b : List Datom) (i : ℕ) : Type 0 where
  pub before : List Datom
  pub datom : Datom
  pub rest : List Datom
  pub batch : b ≡ before ++ (datom ∷ rest)
  pub index : length before ≡ i
  pub not : P datom → ⊥
  pub held : (d : Datom) → In d before → P d

-- a batch b that was asked for, answered a: held exactly if every datom is among those that led to the root, and else NotHeld names the first
-- that is not
pub record Asked (Among : Datom → Type 0) (b : List Datom) (a : Held) : Type 0 where
  pub exactly : (a ≡ all_held) ↔ ((d : Datom) → In d b → Among d)
  pub otherwise : (a ≡ all_held) ⊎ ((i : ℕ) × (a ≡ Err (NotHeld i)))
  pub first : (i : ℕ) → a ≡ Err (NotHeld i) → FirstNot Among b i

-- every cursor that n steps gave is one that words of 64 bits hold
abbrev pub AllFit : ℕ → (ℕ → Stepped) → Type 0
AllFit zero r = Unit {0}
AllFit (suc n) r = CursorFits (r 0).cursor × AllFit n (λ i. r (suc i))

-- so a cursor that is kept in bytes comes back as it was, where the slice has fewer than 2^64 bytes
abbrev pub CursorsFit : Moment → Known → Datom → Datom → Type 0
CursorsFit m k lo hi =
    length m.store < 2 ^ 64 → (b : Started) → b ≡ start_call m.recorded m.store m.heap k.root lo hi →
    CursorFits b.cursor
    × ((when : ℕ → Moment) → ((i : ℕ) → Later m (when i)) → (n : ℕ) (r : ℕ → Stepped) → StepsAlong when n b.cursor r → AllFit n r)

pub record Beyond (m : Moment) (k : Known) : Type 0 where
  pub answered :
      (b : List ℕ) → Lent m.store b → WellFormed (at m) b → (scratch : ℕ) → bad_scratch (extent_of m.recorded) scratch ≡ false →
      Answered (at m).cmp (gathered k.batches) (batch_of b) (outcome_of m (inserts k b scratch)).answer
  pub asked :
      (b : List ℕ) → WellFormed (at m) b →
      Asked (Shared (at m).cmp (gathered k.batches)) (batch_of b) (held_call m.recorded m.store m.heap k.root b)
  pub cursors : (lo hi : Datom) → (at m).bound lo ≡ true → (at m).bound hi ≡ true → CursorsFit m k lo hi
  -- neither 1, scratch apart, nor 13 nor 5 is given
  pub in_good_order : bad_store (extent_of m.recorded) m.store ≡ false
  pub heap_in_order : bad_heap m.recorded.heap m.heap ≡ false
  pub order_known : is_unknown (index_of m.recorded.order) ≡ false
  pub known : bad_root (extent_of m.recorded) k.root ≡ false
  pub sound : check_call m.recorded m.store m.heap k.root ≡ is_sound
  pub readable :
      (p : PageId) → p.0 < m.recorded.count → (n : Node) × (fetch_page (at m) (extent_of m.recorded) m.store p ≡ fine n)

abbrev pub Beyond3 : ℕ → Type 0
Beyond3 size = (m : Moment) → History size m → (k : Known) → In k m.roots → Beyond m k

-- what was well formed stays so, whatever is appended to the heap
abbrev pub StaysFormed : Type 0
StaysFormed = (m m₁ : Moment) → Later m m₁ → (b : List ℕ) → WellFormed (at m) b → WellFormed (at m₁) b

-- a root that grew from another: the batches that led to it end in those that led to the other
abbrev pub GrewFrom : Known → Known → Type 0
GrewFrom k k₁ = (bs : List (List ℕ)) × (k₁.batches ≡ bs ++ k.batches)

-- what an accepted call took in, sent again whole or in part, at the root that it led to or at any that grew from that one, finds things
-- as said. A long value may be sent again under another offset. A batch ascends, so what was handed to initialise in another order is sent
-- again in order.
abbrev pub SentAgain : ℕ → (Moment → Known → List ℕ → Type 0) → Type 0
SentAgain size Finds =
    (m : Moment) → History size m → (c : Call) → Fair m c → (root : PageId) (n : ℕ) → (outcome_of m c).answer ≡ done_with root n →
    (m₁ : Moment) → Later (after m c) m₁ →
    (k₁ : Known) → In k₁ m₁.roots → GrewFrom (record { root = root; batches = given_batch c ∷ (given_root c).batches }) k₁ →
    (b : List ℕ) → WellFormed (at m₁) b → ((d : Datom) → In d (batch_of b) → Shared (at m₁).cmp (batch_of (given_batch c)) d) → Finds m₁ k₁ b

-- in the operator's words: asked for, it is held
abbrev pub StaysHeld : ℕ → Type 0
StaysHeld size = SentAgain size λ m₁ k₁ b. held_call m₁.recorded m₁.store m₁.heap k₁.root b ≡ all_held

-- and inserted it is answered Repeated with index 0, and the store is byte for byte as before
abbrev pub Resending : ℕ → Type 0
Resending size = SentAgain size λ m₁ k₁ b.
    Lent m₁.store b → 0 < length b → (scratch : ℕ) → bad_scratch (extent_of m₁.recorded) scratch ≡ false →
    ((outcome_of m₁ (inserts k₁ b scratch)).answer ≡ Err (Repeated 0)) × ((after m₁ (inserts k₁ b scratch)).store ≡ m₁.store)

-- an accepted insert's batch is well formed, and stays so: it may be sent again as it is
abbrev pub AcceptedFormed : ℕ → Type 0
AcceptedFormed size =
    (m : Moment) → History size m → (k : Known) (b : List ℕ) (scratch : ℕ) → Fair m (inserts k b scratch) → (root : PageId) (n : ℕ) →
    (outcome_of m (inserts k b scratch)).answer ≡ done_with root n → WellFormed (at m) b
