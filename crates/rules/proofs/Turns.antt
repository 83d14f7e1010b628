-- The count of turns never ends the loops of flushes and of splits: where every page read above level 0 ends with a real child and every id
-- that is written is real, any two counts that are enough give the same. Each flush leaves fewer children none, each split fewer datoms.
use Prim.Native.Nat.{ℕ, zero, suc, ◌+◌, ◌-◌, ◌≤◌, ◌<◌}
use native.Mathlib.Omega.{arith}
use Rattle.std.specs.Prelude.{Bool, ◌&&◌, ◌≡◌, take}
use Rattle.std.proofs.Math.Bool.{true, false}
use mathlib.Core.List.{List, [], ◌∷◌, ◌++◌}
use Rattle.std.proofs.Math.Path.{refl, sym, ap}
use Rattle.std.proofs.Common.{◌∙◌, drop-drop}
use borrow.Author.Tests.{ltb-true, le-ltb}
use Rattle.std.proofs.Math.Dec.{ltb}
use Rattle.std.proofs.Math.ListN.{length, drop, get_or}
use Rattle.std.proofs.Math.Seq.{split_at}
use Rattle.store.specs.declared.PageId.{PageId}
use Rattle.store.specs.Page.{page, none, is_none}
use Rattle.store.specs.Laws.{both}
use Rattle.datom.specs.declared.Datom.{Datom}
use Rattle.rules.specs.Page.{Node}
use Rattle.rules.specs.Node.{merge_node, meets, Span, longest_span, any_pending, split_parts, split_up, splice}
use Rattle.rules.specs.Tree.{Fetched, faulty, fine, Env, Stage, stop, go, then, fetch_at, is_tall, put, put_all, split, is_over, settle, Below, flush, flush_all, insert_merged, insert_into, root_of, write_root}
use Rattle.rules.proofs.SplitLaws.{split_shrinks}
use Rattle.rules.proofs.Sizes.{Capped, level_fine, level_is, Few, span_within, flush_no_bigger, insert_gives_few, merged_lens}
use Rattle.rules.proofs.Spans.{pendings, Closed, none_counts, real_counts, pendings_append, pendings_drop, no_pendings, closed_behind, closed_append, closed_drop, closed_some, closed_last, merge_closed, span_sends, pendings_few}

-- what a call works in: every page read above level 0 ends with a real child, and every id that is written is real
pub record Flushable (e : Env) : Type 0 where
  pub capped : Capped e
  pub last : (p : PageId) (n : Node) (l : ℕ) → e.fetch p ≡ fine n → n.level ≡ suc l → is_none (get_or n.children (length n.datoms) none) ≡ false
  pub fresh : (i : ℕ) → i < e.allow → is_none (page (e.count + i)) ≡ false

-- a stage goes on with real children only
abbrev Reals : Stage Node → Type 0
Reals (stop r o) = Unit {0}
Reals (go m o) = pendings m.children ≡ 0

reals_then : (s : Stage Node) (k : Node → List Node → Stage Node) → ((m : Node) (o : List Node) → Reals (k m o)) → Reals (then s k)
unfolding then
reals_then (stop r o) k h = tt
reals_then (go m o) k h = h m o

abbrev RealIds : Stage (List PageId) → Type 0
RealIds (stop r o) = Unit {0}
RealIds (go ids o) = pendings ids ≡ 0

abbrev RealId : Stage PageId → Type 0
RealId (stop r o) = Unit {0}
RealId (go id o) = is_none id ≡ false

module _ (e : Env) (E : Flushable e) where
  put_real : (n : Node) (o : List Node) → RealId (put e n o)
  unfolding put
  put_real n o = side (is_tall n) refl (ltb (length o) e.allow) refl
    where
      side : (u : Bool) → is_tall n ≡ u → (v : Bool) → ltb (length o) e.allow ≡ v → RealId (put e n o)
      side true p true q = simp (p, q) tt
      side true p false q = simp (p, q) tt
      side false p true q = simp (p, q) (E.fresh (length o) (ltb-true (length o) e.allow q))
      side false p false q = simp (p, q) tt

  put_all_real : (ns o : List Node) → RealIds (put_all e ns o)
  unfolding put_all then pendings
  put_all_real [] o = refl
  put_all_real (n ∷ ns) o = first (put e n o) (put_real n o) (put_all_real ns)
    where
      rest : (id : PageId) → is_none id ≡ false → (s : Stage (List PageId)) → RealIds s → RealIds (then s λ ids o₂. go (id ∷ ids) o₂)
      rest id r (stop f o₁) i = tt
      rest id r (go ids o₁) i = real_counts id ids r ∙ i

      first :
          (s : Stage PageId) → RealId s → ((o₁ : List Node) → RealIds (put_all e ns o₁)) →
          RealIds (then s λ id o₁. then (put_all e ns o₁) λ ids o₂. go (id ∷ ids) o₂)
      first (stop f o₁) r ih = tt
      first (go id o₁) r ih = rest id r (put_all e ns o₁) (ih o₁)

  split_real : (n : Node) (o : List Node) → Reals (split e n o)
  unfolding split then
  split_real n o = side (put_all e (split_parts e.cap n) o) (put_all_real (split_parts e.cap n) o)
    where
      side :
          (s : Stage (List PageId)) → RealIds s →
          Reals (then s λ ids o₁. go (record { level = suc n.level; datoms = split_up e.cap n; children = ids }) o₁)
      side (stop r o₁) i = tt
      side (go ids o₁) i = i

  settle_real : (n : Node) (o : List Node) → Reals (settle e n o)
  unfolding settle then pendings
  settle_real n o = side (is_over e n) refl
    where
      one : (s : Stage PageId) → RealId s → Reals (then s λ id o₁. go (record { level = suc n.level; datoms = []; children = id ∷ [] }) o₁)
      one (stop r o₁) i = tt
      one (go id o₁) i = real_counts id [] i

      side : (v : Bool) → is_over e n ≡ v → Reals (settle e n o)
      side true q = rw q (split_real n o)
      side false q = rw q (one (put e n o) (put_real n o))

  merged_real : (p : PageId) (ds : List Datom) (k : Node → List Node → Stage Node) (r : Fetched) (o : List Node) → Reals (insert_merged e p ds k r o)
  unfolding insert_merged
  merged_real p ds k (faulty f) o = tt
  merged_real p ds k (fine n) o = side (meets e.cmp n.datoms ds) refl
    where
      side : (v : Bool) → meets e.cmp n.datoms ds ≡ v → Reals (insert_merged e p ds k (fine n) o)
      side true q = rw q tt
      side false q = rw q (reals_then (k (merge_node e.cmp n ds) o) _ settle_real)

  insert_real : (l : ℕ) (p : PageId) (ds : List Datom) (o : List Node) → Reals (insert_into e l p ds o)
  unfolding insert_into
  insert_real zero p ds o = merged_real p ds _ (fetch_at e 0 p) o
  insert_real (suc l) p ds o = merged_real p ds _ (fetch_at e (suc l) p) o

-- a flush leaves fewer children none, and a real last child
abbrev Fewer : Node → Stage Node → Type 0
Fewer n (stop r o) = Unit {0}
Fewer n (go m o) = Closed true m.children × (pendings m.children < pendings n.children)

module _ (n : Node) (lens : length n.children ≡ suc (length n.datoms)) (end : Closed true n.children) (some : any_pending n.children ≡ true) where
  abbrev cs : List PageId
  cs = n.children

  abbrev sp : Span
  sp = longest_span n.children

  spliced_fewer : (m : Node) → 0 < length m.children → pendings m.children ≡ 0 → Fewer n (go (splice n sp m) [])
  unfolding splice
  spliced_fewer m more reals =
      let w = span_within (length n.datoms) cs (omega arith) in
      let g = span_sends cs end some in
      let rest = drop (suc sp.upto) cs in
      let cut = ap pendings (split_at cs sp.from none (omega arith)) ∙ pendings_append (take sp.from cs) (get_or cs sp.from none ∷ drop (suc sp.from) cs) in
      let first = none_counts (get_or cs sp.from none) (drop (suc sp.from) cs) g.1 in
      let later : rest ≡ drop (sp.upto - sp.from) (drop (suc sp.from) cs) =
      ap (λ (j : ℕ). drop j cs) (let z : suc sp.upto ≡ suc sp.from + (sp.upto - sp.from) = omega arith in z) ∙ sym (drop-drop (sp.upto - sp.from) (suc sp.from) cs) in (
        closed_behind true (take sp.from cs) (m.children ++ rest)
            (closed_append true m.children rest (closed_some m.children more reals) (closed_drop true (suc sp.upto) cs end)),
        omega (
          arith,
          pendings_append (take sp.from cs) (m.children ++ rest),
          pendings_append m.children rest,
          pendings_drop (sp.upto - sp.from) (drop (suc sp.from) cs),
          ap pendings later,
          cut,
          first,
        ),
      )

  flush_fewer :
      (ins : Below) → ((p : PageId) (ds : List Datom) (o : List Node) → Few (length ds) (ins p ds o)) →
      ((p : PageId) (ds : List Datom) (o : List Node) → Reals (ins p ds o)) → (o : List Node) → Fewer n (flush ins n o)
  unfolding flush then
  flush_fewer ins gives reals o = side (ins child sent o) (gives child sent o) (reals child sent o)
    where
      child : PageId
      child = get_or cs sp.upto none

      sent : List Datom
      sent = drop sp.from (take sp.upto n.datoms)

      side : (s : Stage Node) → Few (length sent) s → Reals s → Fewer n (then s λ m o₁. go (splice n sp m) o₁)
      side (stop r o₁) f g = tt
      side (go m o₁) f g = spliced_fewer m (omega (arith, f.1)) g

-- Two counts of turns that are both enough for the pending datoms give the same: the loop ends by its test.
module _ (e : Env) (E : Flushable e) (l : ℕ) where
  abbrev ins : Below
  ins p ds o = insert_into e l p ds o

  idle : (k : ℕ) (n : Node) (o : List Node) → any_pending n.children ≡ false → flush_all e ins k n o ≡ go n o
  unfolding flush_all
  idle zero n o h = refl
  idle (suc k) n o h = side (is_over e n) refl
    where
      side : (v : Bool) → is_over e n ≡ v → flush_all e ins (suc k) n o ≡ go n o
      side true q = rw (q, h, flush_all)
      side false q = rw (q, flush_all)

  pub flushes_enough :
      (k m : ℕ) (n : Node) (o : List Node) → length n.children ≡ suc (length n.datoms) → Closed true n.children → pendings n.children ≤ k →
      pendings n.children ≤ m → flush_all e ins k n o ≡ flush_all e ins m n o
  unfolding flush_all then
  flushes_enough zero m n o lens end f g = sym (idle m n o (no_pendings n.children (omega arith)))
  flushes_enough (suc k) zero n o lens end f g = idle (suc k) n o (no_pendings n.children (omega arith))
  flushes_enough (suc k) (suc m) n o lens end f g = side (is_over e n && any_pending n.children) refl (flushes_enough k m)
    where
      on :
          ((n₁ : Node) (o₁ : List Node) → length n₁.children ≡ suc (length n₁.datoms) → Closed true n₁.children → pendings n₁.children ≤ k →
          pendings n₁.children ≤ m → flush_all e ins k n₁ o₁ ≡ flush_all e ins m n₁ o₁) →
          (s : Stage Node) → Few (length n.datoms) s → Fewer n s →
          then s (λ n₁ o₁. flush_all e ins k n₁ o₁) ≡ then s (λ n₁ o₁. flush_all e ins m n₁ o₁)
      on ih (stop r o₁) a b = refl
      on ih (go n₁ o₁) a b = ih n₁ o₁ a.1 b.0 (omega (arith, b.1)) (omega (arith, b.1))

      side :
          (v : Bool) → (is_over e n && any_pending n.children) ≡ v →
          ((n₁ : Node) (o₁ : List Node) → length n₁.children ≡ suc (length n₁.datoms) → Closed true n₁.children → pendings n₁.children ≤ k →
          pendings n₁.children ≤ m → flush_all e ins k n₁ o₁ ≡ flush_all e ins m n₁ o₁) →
          flush_all e ins (suc k) n o ≡ flush_all e ins (suc m) n o
      side false q ih = rw (q, flush_all)
      side true q ih =
          rw (q, flush_all)
          (on ih (flush ins n o) (flush_no_bigger e ins (insert_gives_few e E.capped l) n o lens)
          (flush_fewer n lens end (both (is_over e n) (any_pending n.children) q).1 ins (insert_gives_few e E.capped l) (insert_real e E l) o))

  -- so an insert is the same with any count that is at least the datoms of the merged node
  pub insert_turns :
      (turns : Node → ℕ) → ((n : Node) → length n.datoms ≤ turns n) → (p : PageId) (ds : List Datom) (o : List Node) →
      insert_into e (suc l) p ds o ≡ insert_merged e p ds (λ n o₁. flush_all e ins (turns n) n o₁) (fetch_at e (suc l) p) o
  unfolding insert_into insert_merged fetch_at merge_node
  insert_turns turns many p ds o = page_is (fetch_at e (suc l) p) refl
    where
      page_is :
          (r : Fetched) → fetch_at e (suc l) p ≡ r →
          insert_merged e p ds (λ n o₁. flush_all e ins (length n.datoms) n o₁) r o ≡ insert_merged e p ds (λ n o₁. flush_all e ins (turns n) n o₁) r o
      page_is (faulty f) q = refl
      page_is (fine n) q =
          let read = level_fine (suc l) (e.fetch p) n q in
          let lens = merged_lens e E.capped p ds n read in
          let end : Closed true (merge_node e.cmp n ds).children =
          merge_closed e.cmp n.datoms n.children ds (E.capped.lens p n read)
          (closed_last (length n.datoms) n.children (E.capped.lens p n read) (E.last p n l read (level_is (suc l) (e.fetch p) n q))) in
          let most = pendings_few (merge_node e.cmp n ds).children end in
          rw (flushes_enough (length (merge_node e.cmp n ds).datoms) (turns (merge_node e.cmp n ds)) (merge_node e.cmp n ds) o lens end (omega arith) (omega (arith, many (merge_node e.cmp n ds))))

-- So with the splits at the top: two counts that are both enough for the datoms give the same.
module _ (e : Env) (pos : 0 < e.cap) where
  rests : (k : ℕ) (n : Node) (o : List Node) → is_over e n ≡ false → write_root e k n o ≡ root_of e n.children n o
  unfolding write_root
  rests zero n o h = refl
  rests (suc k) n o h = rw (h, write_root)

  nothing_over : (n : Node) → length n.datoms ≤ 0 → is_over e n ≡ false
  unfolding is_over
  nothing_over n h = le-ltb e.cap (length n.datoms) (omega arith)

  pub splits_enough :
      (k m : ℕ) (n : Node) (o : List Node) → length n.datoms ≤ k → length n.datoms ≤ m → write_root e k n o ≡ write_root e m n o
  unfolding write_root split is_over then
  splits_enough zero m n o f g = sym (rests m n o (nothing_over n f))
  splits_enough (suc k) zero n o f g = rests (suc k) n o (nothing_over n g)
  splits_enough (suc k) (suc m) n o f g = side (ltb e.cap (length n.datoms)) refl (splits_enough k m)
    where
      up : List PageId → Node
      up ids = record { level = suc n.level; datoms = split_up e.cap n; children = ids }

      on :
          ((n₁ : Node) (o₁ : List Node) → length n₁.datoms ≤ k → length n₁.datoms ≤ m → write_root e k n₁ o₁ ≡ write_root e m n₁ o₁) →
          e.cap < length n.datoms → (s : Stage (List PageId)) →
          then (then s λ ids o₁. go (up ids) o₁) (λ n₁ o₁. write_root e k n₁ o₁) ≡ then (then s λ ids o₁. go (up ids) o₁) (λ n₁ o₁. write_root e m n₁ o₁)
      on ih over (stop r o₁) = refl
      on ih over (go ids o₁) =
          let fewer = split_shrinks e.cap n pos over in
          ih (up ids) o₁ (omega arith) (omega arith)

      side :
          (v : Bool) → ltb e.cap (length n.datoms) ≡ v →
          ((n₁ : Node) (o₁ : List Node) → length n₁.datoms ≤ k → length n₁.datoms ≤ m → write_root e k n₁ o₁ ≡ write_root e m n₁ o₁) →
          write_root e (suc k) n o ≡ write_root e (suc m) n o
      side false q ih = rw (q, write_root)
      side true q ih = rw (q, write_root) (on ih (ltb-true e.cap (length n.datoms) q) (put_all e (split_parts e.cap n) o))
