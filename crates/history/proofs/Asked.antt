-- A batch that is asked for at a root whose pages hold a good tree: it is held, or the first datom that is not. Rests on Look and Calls.
use Rattle.std.specs.Prelude.{Err, Ok}
use Rattle.answer.specs.Answers.{Held, all_held}
use Rattle.std.specs.Prelude.{ℕ, suc, ◌+◌, ◌*◌, ◌≤◌, ◌↔◌, ◌≡◌, refl, length}
use Rattle.std.proofs.Common.{arith, inl, inr, ap}
use mathlib.Core.List.{List, [], ◌∷◌}
use Rattle.store.specs.declared.PageId.{PageId}
use Rattle.store.specs.declared.Extent.{Extent}
use Rattle.store.specs.Size.{capacity}
use Rattle.store.specs.Laws.{apart}
use Rattle.datom.specs.declared.Datom.{Datom}
use Rattle.index.specs.Order.{DatomOrd}
use Rattle.index.proofs.Laws.{Preorder}
use Rattle.answer.specs.declared.Refusal.TheVariants.{NotHeld}
use Rattle.rules.specs.Page.{Node}
use Rattle.rules.specs.Tree.{fine, Env}
use Rattle.rules.specs.Lookup.{Look, lookup, Finding, clear, found}
use Rattle.rules.specs.Store.{or_else, fetch_page, env_of}
use Rattle.rules.specs.Insert.{root_fault, batch_of}
use Rattle.rules.specs.Held.{after_held, held_all, held_at, held_tree, held_counted, held_fault, held_bytes}
use Rattle.rules.specs.Lists.{In, in_left, in_right}
use Rattle.rules.proofs.Sizes.{level_is, level_fine}
use Rattle.history.specs.Statement.{WellFormed, Shared}
use Rattle.history.specs.More.{FirstNot, Asked}
use Rattle.history.specs.Tree.{Tree, Good, Exactly}
use Rattle.history.specs.Pages.{page, child, Holds, no_page, a_page}
use Rattle.history.specs.Look.{Has, Looked, is_met, is_absent, lookup_ok}
use Rattle.history.specs.After.{in_order}
use Rattle.history.specs.Checks.{Finds, is_clear, is_found, finds_even, finds_few, finds_word, finds_order}
use Rattle.history.proofs.Calls.{RootIs, root_known}

-- a batch whose first datom has index i: all of it is as said, or the first that is not
data Asks (P : Datom → Type 0) (i : ℕ) (b : List Datom) : Finding → Type 0 where
  all : ((d : Datom) → In d b → P d) → Asks P i b clear
  not_all : {j k : ℕ} → FirstNot P b j → j + i ≡ k → Asks P i b (found (NotHeld k))

asks_head : {P : Datom → Type 0} (i : ℕ) (d : Datom) (b : List Datom) → (P d → ⊥) → Asks P i (d ∷ b) (found (NotHeld i))
asks_head i d b n =
    not_all {j = 0} {k = i} (record { before = []; datom = d; rest = b; batch = refl; index = refl; not = n; held = λ y j. absurd j }) (omega arith)

asks_more : {P : Datom → Type 0} (i : ℕ) (d : Datom) (b : List Datom) {f : Finding} → P d → Asks P (suc i) b f → Asks P i (d ∷ b) f
asks_more i d b p (all a) = all λ y j. elim j [ inl e ↦ rw e p | inr k ↦ a y k ]
asks_more i d b p (not_all {j} {k} F e) =
    not_all {j = suc j} {k = k}
    (record {
      before = d ∷ F.before;
      datom = F.datom;
      rest = F.rest;
      batch = ap (d ∷◌) F.batch;
      index = ap suc F.index;
      not = F.not;
      held = λ y v. elim v [ inl q ↦ rw q p | inr q ↦ F.held y q ];
    })
    (omega (arith, e))

-- it is one of the batch
pub not_in : {P : Datom → Type 0} {b : List Datom} {i : ℕ} (F : FirstNot P b i) → In F.datom b
not_in F = rw F.batch (in_right F.datom F.before (F.datom ∷ F.rest) (inl refl))

-- other words for what is said
pub not_map : {P Q : Datom → Type 0} {b : List Datom} {i : ℕ} → ((d : Datom) → In d b → P d ↔ Q d) → FirstNot P b i → FirstNot Q b i
not_map {b} s F =
    let from : (d : Datom) → In d F.before → In d b = λ d j. rw F.batch (in_left d F.before (F.datom ∷ F.rest) j) in
    record {
      before = F.before;
      datom = F.datom;
      rest = F.rest;
      batch = F.batch;
      index = F.index;
      not = λ q. F.not ((s F.datom (not_in F)).1 q);
      held = λ d j. (s d (from d j)).0 (F.held d j);
    }

pub asked_map : {P Q : Datom → Type 0} {b : List Datom} {a : Held} → ((d : Datom) → In d b → P d ↔ Q d) → Asked P b a → Asked Q b a
asked_map s A =
    record {
      exactly = (λ e d j. (s d j).0 (A.exactly.0 e d j), λ q. A.exactly.1 (λ d j. (s d j).1 (q d j)));
      otherwise = A.otherwise;
      first = λ i e. not_map s (A.first i e);
    }

-- the lookups of a batch that is asked for
module _ (e : Env) (L : Preorder e.cmp) (l : ℕ) (root : PageId) (n : Node) (tr : Tree) (g : Good e.cmp tr)
    (h : Holds e.fetch (page l n.datoms n.children) tr)
  where
    asks_ok : (i : ℕ) (b : List Datom) → Asks (λ d. Has e.cmp d tr) i b (held_all e l root (fine n) i b)
    unfolding held_all after_held
    asks_ok i [] = all λ d j. absurd j
    asks_ok i (d ∷ b) = side (lookup e d l root (fine n)) (lookup_ok e L d l root n tr g h) (asks_ok (suc i) b)
      where
        side :
            (k : Look) → Looked e.cmp d tr k → Asks (λ y. Has e.cmp y tr) (suc i) b (held_all e l root (fine n) (suc i) b) →
            Asks (λ y. Has e.cmp y tr) i (d ∷ b) (after_held i k (held_all e l root (fine n) (suc i) b))
        side k (is_met a) w = asks_more i d b a w
        side k (is_absent a) w = asks_head i d b a

module _ (t : DatomOrd) (L : Preorder t.cmp) (x : Extent) (s : List ℕ) (u : List Datom) where
  abbrev Here : Datom → Type 0
  Here d = Shared t.cmp u d

  -- what the tree has is what led to the root
  asks_told : (tr : Tree) {i : ℕ} {b : List Datom} {f : Finding} → Exactly (λ y. In y u) tr → Asks (λ d. Has t.cmp d tr) i b f → Asks Here i b f
  asks_told tr ex (all a) = all λ d j. let q = a d j in (q.0, (ex q.0).0 q.1, q.2)
  asks_told tr ex (not_all {j} {k} F e) =
      not_all {j = j} {k = k}
      (not_map (λ d v. (λ q. (q.0, (ex q.0).0 q.1, q.2), λ q. (q.0, (ex q.0).1 q.1, q.2))) F)
      e

  tree_asks :
      {l : ℕ} {root : PageId} {tr : Tree} → Holds (fetch_page t x s) (child l root) tr → Good t.cmp tr → Exactly (λ y. In y u) tr → (b : List Datom) →
      Asks Here 0 b (held_tree t x s root b)
  unfolding held_tree held_at env_of
  tree_asks h g ex [] = all λ d j. absurd j
  tree_asks (no_page n) g ex (d ∷ b) = rw n (asks_head 0 d b λ q. (ex q.0).1 q.1)
  tree_asks {root} {tr} (a_page {l} {n} r q h) g ex (d ∷ b) =
      rw (r, level_fine l (fetch_page t x s root) n q)
      (asks_told tr ex (asks_ok (env_of t x s) L n.level root n tr g (rw (level_is l (fetch_page t x s root) n q) h) 0 (d ∷ b)))

  -- the answer
  asks_answer : {b : List Datom} {f : Finding} → Asks Here 0 b f → Asked Here b (or_else Err f all_held)
  asks_answer (all a) = record { exactly = (λ e. a, λ q. refl); otherwise = inl refl; first = λ i e. absurd (apart (cc)) }
  asks_answer (not_all {j} {k} F e) =
      record {
        exactly = (
          λ e. absurd (apart (cc)),
          λ q. absurd (F.not (q F.datom (not_in F))),
        );
        otherwise = inr (k, refl);
        first = λ i v. let same : j ≡ i = omega (arith, (let z : k ≡ i = cc in z), e) in rw (← same) F;
      }

  -- a check finds nothing where what it asks for holds
  found_nothing : {P : Type 0} {f : Finding} → Finds P f → P → f ≡ clear
  found_nothing (is_clear p) h = refl
  found_nothing (is_found r n) h = absurd (n h)

  pub asked_ok :
      (capacity x.size ≡ 0 → ⊥) → x.count * x.size ≤ length s → (root : PageId) → RootIs t x s root u → (b : List ℕ) → WellFormed t b →
      Asked Here (batch_of b) (held_bytes t x s root b)
  unfolding held_bytes held_fault held_counted root_fault
  asked_ok known fits root R b w =
      rw (
        in_order x s known fits,
        found_nothing (finds_even b) w.multiple,
        found_nothing (finds_few (batch_of b)) w.few,
        found_nothing (finds_word t (batch_of b)) (w.formed, w.form),
        found_nothing (finds_order t.cmp L (batch_of b)) w.order,
        root_known t x s root R.holds,
      )
      (asks_answer (tree_asks R.holds R.good R.exactly (batch_of b)))
