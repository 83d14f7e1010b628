-- How large nodes get: a flush makes no node bigger, what goes up from an insert is at most the batch, and the node at depth d has at
-- most (d+1)C+128 datoms.
use Prim.Native.Nat.{ℕ, zero, suc, ◌+◌, ◌-◌, ◌≤◌, ◌<◌, zero-le}
use native.Mathlib.Omega.{arith}
use Rattle.std.specs.Prelude.{Bool, ◌&&◌, cond, ◌≡◌, leb, ltb, eqb, take, drop, get_or}
use Rattle.std.proofs.Math.Bool.{true, false}
use mathlib.Core.List.{List, [], ◌∷◌}
use Rattle.std.proofs.Math.Path.{refl, sym, ap}
use Rattle.std.proofs.Common.{◌∙◌, length-append, length-drop}
use borrow.Author.Tests.{eqb-true, ltb-true, le-leb}
use Rattle.std.proofs.Math.ListN.{length, length-take}
use Rattle.store.specs.declared.PageId.{PageId}
use Rattle.store.specs.Page.{none, is_none}
use Rattle.store.specs.Laws.{apart}
use Rattle.datom.specs.declared.Datom.{Datom}
use Rattle.answer.specs.declared.Refusal.TheVariants.{BadStore}
use Rattle.rules.specs.Page.{Node}
use Rattle.rules.specs.Node.{meets, merge_node, Span, is_longer, span_from, longest_span, any_pending, split_parts, split_up, splice}
use Rattle.rules.specs.Tree.{Fetched, faulty, fine, Env, Stage, stop, go, then, at_level, fetch_at, put, put_all, split, is_over, settle, Below, flush, flush_all, insert_merged, insert_into}
use Rattle.rules.specs.MergeLaws.{merge_length, merge_children_length}
use Rattle.rules.proofs.SplitLaws.{split_midpoints_fewer, split_midpoints_few}

-- what every page read has: at most C datoms, and one child more
pub record Capped (e : Env) : Type 0 where
  pub pos : 0 < e.cap
  pub few : (p : PageId) (n : Node) → e.fetch p ≡ fine n → length n.datoms ≤ e.cap
  pub lens : (p : PageId) (n : Node) → e.fetch p ≡ fine n → length n.children ≡ suc (length n.datoms)

pub level_fine : (l : ℕ) (r : Fetched) (n : Node) → at_level l r ≡ fine n → r ≡ fine n
unfolding at_level
level_fine l (faulty f) n e = e
level_fine l (fine m) n e = side (eqb m.level l) refl
  where
    side : (b : Bool) → eqb m.level l ≡ b → fine m ≡ fine n
    side true q = rw q at e
    side false q = let k : cond false (fine m) (faulty _) ≡ fine n = rw q at e in absurd (apart (cc))

pub level_is : (l : ℕ) (r : Fetched) (n : Node) → at_level l r ≡ fine n → n.level ≡ l
unfolding at_level
level_is l (faulty f) n q = absurd (apart (cc))
level_is l (fine m) n q = side (eqb m.level l) refl
  where
    side : (b : Bool) → eqb m.level l ≡ b → n.level ≡ l
    side true v = let k : fine m ≡ fine n = rw v at q in let y : m ≡ n = cc in rw (← y) (eqb-true m.level l v)
    side false v = let k : faulty _ ≡ fine n = rw v at q in absurd (apart (cc))

-- what a stage goes on with has at most b datoms, and one child more
abbrev pub Few : ℕ → Stage Node → Type 0
Few b (stop r o) = Unit {0}
Few b (go m o) = (length m.datoms ≤ b) × (length m.children ≡ suc (length m.datoms))

pub few_more : (a b : ℕ) (s : Stage Node) → a ≤ b → Few a s → Few b s
few_more a b (stop r o) h f = tt
few_more a b (go m o) h f = (omega (arith, f.0), f.1)

pub few_then : (a b : ℕ) (s : Stage Node) (k : Node → List Node → Stage Node) → Few a s →
    ((m : Node) (o : List Node) → length m.datoms ≤ a → length m.children ≡ suc (length m.datoms) → Few b (k m o)) → Few b (then s k)
unfolding then
few_then a b (stop r o) k f h = tt
few_then a b (go m o) k f h = h m o f.0 f.1

-- as many ids as pages
abbrev Ids : ℕ → Stage (List PageId) → Type 0
Ids n (stop r o) = Unit {0}
Ids n (go ids o) = length ids ≡ n

ids_all : (e : Env) (ns o : List Node) → Ids (length ns) (put_all e ns o)
unfolding put_all then
ids_all e [] o = refl
ids_all e (n ∷ ns) o = first (put e n o) (λ o₁. ids_all e ns o₁)
  where
    rest : (id : PageId) (s : Stage (List PageId)) → Ids (length ns) s → Ids (suc (length ns)) (then s λ ids o₂. go (id ∷ ids) o₂)
    rest id (stop r o₁) i = tt
    rest id (go ids o₁) i = ap suc i

    first :
        (s : Stage PageId) → ((o₁ : List Node) → Ids (length ns) (put_all e ns o₁)) →
        Ids (suc (length ns)) (then s λ id o₁. then (put_all e ns o₁) λ ids o₂. go (id ∷ ids) o₂)
    first (stop r o₁) ih = tt
    first (go id o₁) ih = rest id (put_all e ns o₁) (ih o₁)

module _ (e : Env) (pos : 0 < e.cap) (b : ℕ) where
  split_few : (n : Node) (o : List Node) → e.cap < length n.datoms → length n.datoms ≤ e.cap + b → Few b (split e n o)
  unfolding split then
  split_few n o over h = side (put_all e (split_parts e.cap n) o) (ids_all e (split_parts e.cap n) o)
    where
      side :
          (s : Stage (List PageId)) → Ids (length (split_parts e.cap n)) s →
          Few b (then s λ ids o₁. go (record { level = suc n.level; datoms = split_up e.cap n; children = ids }) o₁)
      side (stop r o₁) i = tt
      side (go ids o₁) i = (split_midpoints_few e.cap n pos over b h, i ∙ sym (split_midpoints_fewer e.cap n pos over))

  -- a node with at most b more datoms than fit sends at most b up
  pub settle_few : (n : Node) (o : List Node) → length n.datoms ≤ e.cap + b → Few b (settle e n o)
  unfolding settle is_over then
  settle_few n o h = side (ltb e.cap (length n.datoms)) refl
    where
      one : (s : Stage PageId) → Few b (then s λ id o₁. go (record { level = suc n.level; datoms = []; children = id ∷ [] }) o₁)
      one (stop r o₁) = tt
      one (go id o₁) = (zero-le, refl)

      side : (t : Bool) → ltb e.cap (length n.datoms) ≡ t → Few b (settle e n o)
      side true q = rw q (split_few n o (ltb-true e.cap (length n.datoms) q) h)
      side false q = rw q (one (put e n o))

-- a span lies within the children, whose last index is k
abbrev pub Inside : ℕ → Span → Type 0
Inside k s = (s.from ≤ s.upto) × (s.upto ≤ k)

span_from_law :
    (k : ℕ) (cs : List PageId) (i start : ℕ) (best : Span) → start ≤ i → i + length cs ≤ suc k → Inside k best → Inside k (span_from cs i start best)
unfolding span_from
span_from_law k [] i start best a b c = c
span_from_law k (x ∷ cs) i start best a b c =
    side (is_none x) refl (λ start₁ best₁ u v. span_from_law k cs (suc i) start₁ best₁ u (omega arith) v)
  where
    longer : (u : Bool) → Inside k (cond u (record { from = start; upto = i }) best)
    longer true = (a, omega arith)
    longer false = c

    side :
        (t : Bool) → is_none x ≡ t →
        ((start₁ : ℕ) (best₁ : Span) → start₁ ≤ suc i → Inside k best₁ → Inside k (span_from cs (suc i) start₁ best₁)) →
        Inside k (span_from (x ∷ cs) i start best)
    side true p ih = rw (p, span_from) (ih start best (omega arith) c)
    side false p ih = rw (p, span_from) (ih (suc i) _ (omega arith) (longer (is_longer best start i)))

pub span_within : (k : ℕ) (cs : List PageId) → length cs ≤ suc k → Inside k (longest_span cs)
unfolding longest_span
span_within k cs h = span_from_law k cs 0 0 (record { from = 0; upto = 0 }) zero-le (omega arith) (zero-le, zero-le)

-- the batch of a flush is as long as its span
pub span_length : {A : Type 0} (from upto : ℕ) (xs : List A) → upto ≤ length xs → length (drop from (take upto xs)) ≡ upto - from
span_length from upto xs h = simp (length-drop, length-take) (omega arith)

module _ (e : Env) (ins : Below) (gives : (p : PageId) (ds : List Datom) (o : List Node) → Few (length ds) (ins p ds o)) where
  -- "Flushing must not make a node bigger."
  pub flush_no_bigger : (n : Node) (o : List Node) → length n.children ≡ suc (length n.datoms) → Few (length n.datoms) (flush ins n o)
  unfolding flush splice
  flush_no_bigger n o lens =
      let s = longest_span n.children in
      let w = span_within (length n.datoms) n.children (omega arith) in
      few_then (s.upto - s.from) (length n.datoms) _ _
      (rw (span_length s.from s.upto n.datoms w.1) at
      (gives (get_or n.children s.upto none) (drop s.from (take s.upto n.datoms)) o))
      λ m o₁ few more. spliced s m w.0 w.1 few more
    where
      spliced :
          (s : Span) (m : Node) → s.from ≤ s.upto → s.upto ≤ length n.datoms → length m.datoms ≤ s.upto - s.from →
          length m.children ≡ suc (length m.datoms) →
          (length (splice n s m).datoms ≤ length n.datoms) × (length (splice n s m).children ≡ suc (length (splice n s m).datoms))
      spliced s m a b few more =
          (simp (length-append, length-take, length-drop) (omega arith), simp (length-append, length-take, length-drop) (omega arith))

  pub flush_all_no_bigger :
      (b k : ℕ) (n : Node) (o : List Node) → length n.datoms ≤ b → length n.children ≡ suc (length n.datoms) → Few b (flush_all e ins k n o)
  unfolding flush_all
  flush_all_no_bigger b zero n o h lens = (h, lens)
  flush_all_no_bigger b (suc k) n o h lens =
      side (is_over e n && any_pending n.children) refl (λ m o₁ f g. flush_all_no_bigger b k m o₁ f g)
    where
      side :
          (t : Bool) → (is_over e n && any_pending n.children) ≡ t →
          ((m : Node) (o₁ : List Node) → length m.datoms ≤ b → length m.children ≡ suc (length m.datoms) → Few b (flush_all e ins k m o₁)) →
          Few b (flush_all e ins (suc k) n o)
      side false q ih = rw (q, flush_all) (h, lens)
      side true q ih =
          rw (q, flush_all) (few_then b b (flush ins n o) _ (few_more (length n.datoms) b (flush ins n o) h (flush_no_bigger n o lens)) ih)

module _ (e : Env) (C : Capped e) where
  merged_few : (p : PageId) (ds : List Datom) (n : Node) → e.fetch p ≡ fine n → length (merge_node e.cmp n ds).datoms ≤ e.cap + length ds
  unfolding merge_node
  merged_few p ds n q = omega (arith, merge_length e.cmp n.datoms ds, C.few p n q)

  pub merged_lens :
      (p : PageId) (ds : List Datom) (n : Node) → e.fetch p ≡ fine n →
      length (merge_node e.cmp n ds).children ≡ suc (length (merge_node e.cmp n ds).datoms)
  unfolding merge_node
  merged_lens p ds n q =
      omega
      (arith, merge_length e.cmp n.datoms ds, merge_children_length e.cmp n.datoms n.children ds (C.lens p n q), C.lens p n q)

  merged_gives :
      (l : ℕ) (p : PageId) (ds : List Datom) (k : Node → List Node → Stage Node) →
      ((n : Node) (o : List Node) → length n.children ≡ suc (length n.datoms) → Few (length n.datoms) (k n o)) →
      (r : Fetched) → r ≡ fetch_at e l p → (o : List Node) → Few (length ds) (insert_merged e p ds k r o)
  unfolding insert_merged fetch_at
  merged_gives l p ds k f (faulty x) q o = tt
  merged_gives l p ds k f (fine n) q o = side (meets e.cmp n.datoms ds) refl
    where
      read : e.fetch p ≡ fine n
      read = level_fine l (e.fetch p) n (sym q)

      side : (t : Bool) → meets e.cmp n.datoms ds ≡ t → Few (length ds) (insert_merged e p ds k (fine n) o)
      side true z = rw z tt
      side false z =
          rw z
          (few_then (e.cap + length ds) (length ds) _ _
          (few_more _ (e.cap + length ds) (k (merge_node e.cmp n ds) o) (merged_few p ds n read) (f (merge_node e.cmp n ds) o (merged_lens p ds n read)))
          λ m o₁ h g. settle_few e C.pos (length ds) m o₁ h)

  -- what goes up from an insert is at most the batch
  pub insert_gives_few : (l : ℕ) (p : PageId) (ds : List Datom) (o : List Node) → Few (length ds) (insert_into e l p ds o)
  unfolding insert_into
  insert_gives_few zero p ds o = merged_gives 0 p ds _ (λ n o₁ lens. (omega arith, lens)) (fetch_at e 0 p) refl o
  insert_gives_few (suc l) p ds o =
      merged_gives (suc l) p ds _
      (λ n o₁ lens. flush_all_no_bigger e (λ p₁ ds₁ o₂. insert_into e l p₁ ds₁ o₂) (insert_gives_few l) (length n.datoms) (length n.datoms) n o₁ (omega arith) lens)
      (fetch_at e (suc l) p) refl o

-- the same insert with a limit: a merged node with more than m datoms stops it, and one level lower the limit is C higher
unfoldable pub limited : ℕ → Node → List Node → Stage Node → Stage Node
limited m n o s = cond (leb (length n.datoms) m) s (stop BadStore o)

unfoldable pub insert_within : Env → ℕ → ℕ → PageId → List Datom → List Node → Stage Node
insert_within e m zero p ds o = insert_merged e p ds (λ n o₁. limited m n o₁ (go n o₁)) (fetch_at e 0 p) o
insert_within e m (suc l) p ds o =
    insert_merged e p ds
    (λ n o₁. limited m n o₁ (flush_all e (λ p₁ ds₁ o₂. insert_within e (e.cap + m) l p₁ ds₁ o₂) (length n.datoms) n o₁)) (fetch_at e (suc l) p) o

module _
    (e : Env) (ins ins₁ : Below) (gives : (p : PageId) (ds : List Datom) (o : List Node) → Few (length ds) (ins₁ p ds o)) (m : ℕ)
    (same : (p : PageId) (ds : List Datom) (o : List Node) → length ds ≤ m → ins p ds o ≡ ins₁ p ds o)
  where
    flush_agrees :
        (n : Node) (o : List Node) → length n.datoms ≤ m → length n.children ≡ suc (length n.datoms) → flush ins n o ≡ flush ins₁ n o
    unfolding flush
    flush_agrees n o h lens =
        let s = longest_span n.children in
        let w = span_within (length n.datoms) n.children (omega arith) in
        ap (λ (t : Stage Node). then t λ k o₁. go (splice n s k) o₁)
        (same (get_or n.children s.upto none) (drop s.from (take s.upto n.datoms)) o
        (omega (arith, span_length s.from s.upto n.datoms w.1)))

    -- two inserts that agree on batches of at most m datoms serve a node of at most m datoms alike
    pub flush_all_agrees :
        (k : ℕ) (n : Node) (o : List Node) → length n.datoms ≤ m → length n.children ≡ suc (length n.datoms) →
        flush_all e ins k n o ≡ flush_all e ins₁ k n o
    unfolding flush_all then
    flush_all_agrees zero n o h lens = refl
    flush_all_agrees (suc k) n o h lens =
        side (is_over e n && any_pending n.children) refl (λ n₁ o₁ f g. flush_all_agrees k n₁ o₁ f g)
      where
        on :
            ((n₁ : Node) (o₁ : List Node) → length n₁.datoms ≤ m → length n₁.children ≡ suc (length n₁.datoms) →
            flush_all e ins k n₁ o₁ ≡ flush_all e ins₁ k n₁ o₁) →
            (s : Stage Node) → Few (length n.datoms) s →
            then s (λ n₁ o₁. flush_all e ins k n₁ o₁) ≡ then s (λ n₁ o₁. flush_all e ins₁ k n₁ o₁)
        on ih (stop r o₁) f = refl
        on ih (go n₁ o₁) f = ih n₁ o₁ (omega (arith, f.0)) f.1

        side :
            (t : Bool) → (is_over e n && any_pending n.children) ≡ t →
            ((n₁ : Node) (o₁ : List Node) → length n₁.datoms ≤ m → length n₁.children ≡ suc (length n₁.datoms) →
            flush_all e ins k n₁ o₁ ≡ flush_all e ins₁ k n₁ o₁) →
            flush_all e ins (suc k) n o ≡ flush_all e ins₁ (suc k) n o
        side false q ih = rw (q, flush_all)
        side true q ih = rw (q, flush_all, flush_agrees n o h lens) (on ih (flush ins₁ n o) (flush_no_bigger e ins₁ gives n o lens))

module _ (e : Env) (C : Capped e) where
  merged_within :
      (l : ℕ) (p : PageId) (ds : List Datom) (m : ℕ) → e.cap + length ds ≤ m → (k k₁ : Node → List Node → Stage Node) →
      ((n : Node) (o : List Node) → length n.datoms ≤ m → length n.children ≡ suc (length n.datoms) → k n o ≡ k₁ n o) →
      (r : Fetched) → r ≡ fetch_at e l p → (o : List Node) → insert_merged e p ds (λ n o₁. limited m n o₁ (k n o₁)) r o ≡ insert_merged e p ds k₁ r o
  unfolding insert_merged fetch_at limited
  merged_within l p ds m h k k₁ f (faulty x) q o = refl
  merged_within l p ds m h k k₁ f (fine n) q o =
      rw (
        le-leb (length (merge_node e.cmp n ds).datoms) m (omega (arith, merged_few e C p ds n read)),
        f (merge_node e.cmp n ds) o (omega (arith, merged_few e C p ds n read)) (merged_lens e C p ds n read),
      )
    where
      read : e.fetch p ≡ fine n
      read = level_fine l (e.fetch p) n (sym q)

  -- no node passes its limit
  pub insert_within_law :
      (l : ℕ) (p : PageId) (ds : List Datom) (m : ℕ) (o : List Node) → e.cap + length ds ≤ m → insert_within e m l p ds o ≡ insert_into e l p ds o
  unfolding insert_within insert_into
  insert_within_law zero p ds m o h = merged_within 0 p ds m h _ _ (λ n o₁ f lens. refl) (fetch_at e 0 p) refl o
  insert_within_law (suc l) p ds m o h =
      merged_within (suc l) p ds m h _ _
      (λ n o₁ f lens. flush_all_agrees e _ _ (insert_gives_few e C l) m (λ p₁ ds₁ o₂ g. insert_within_law l p₁ ds₁ (e.cap + m) o₂ (omega arith)) (length n.datoms) n o₁ f lens)
      (fetch_at e (suc l) p) refl o

  -- "The node at depth d has at most (d+1)C+128 datoms.": C+128 at depth 0, and C more with each depth
  pub depth_bound :
      (l : ℕ) (p : PageId) (ds : List Datom) (o : List Node) → length ds ≤ 128 → insert_within e (e.cap + 128) l p ds o ≡ insert_into e l p ds o
  depth_bound l p ds o h = insert_within_law l p ds (e.cap + 128) o (omega arith)
