-- How much a call writes, on every input: no more pages than it may, all of them where it is NoRoom, and none where its refusal is one
-- that comes before writing.
use Rattle.answer.specs.Answers.{same_done}
use Rattle.std.specs.Prelude.{Err}
use Rattle.answer.specs.Answers.{done_with}
use Prim.Native.Nat.{ℕ, zero, suc, ◌+◌, ◌*◌, ◌/◌, ◌≤◌, ◌<◌}
use Rattle.std.proofs.Common.{sym, le-div_iff_mul-le, length-append}
use native.Mathlib.Omega.{arith}
use Rattle.std.specs.Prelude.{Bool, ◌&&◌, ◌≡◌}
use Rattle.std.proofs.Math.Bool.{true, false}
use mathlib.Core.List.{List, [], ◌∷◌}
use Rattle.std.proofs.Math.Path.{refl}
use borrow.Author.Tests.{ltb-true, ltb-false}
use Rattle.std.proofs.Math.Dec.{ltb}
use Rattle.std.proofs.Math.ListN.{length}
use Rattle.store.specs.declared.PageId.{PageId}
use Rattle.store.specs.declared.Extent.{Extent}
use Rattle.store.specs.Page.{is_none}
use Rattle.store.specs.Words.{spread}
use Rattle.store.specs.Laws.{apart}
use Rattle.store.specs.Cells.{patch_none}
use Rattle.datom.specs.declared.Datom.{Datom}
use Rattle.index.specs.Order.{DatomOrd}
use Rattle.answer.specs.declared.Fault.{Fault}
use Rattle.answer.specs.declared.Fault.TheVariants.{EqualDatoms}
use Rattle.answer.specs.declared.Refusal.{Refusal}
use Rattle.answer.specs.declared.Refusal.TheVariants.{Damaged, NoRoom}
use Rattle.answer.specs.Table.{number_of}
use Rattle.rules.specs.Page.{Node}
use Rattle.rules.specs.Node.{meets, any_pending, split_parts}
use Rattle.rules.specs.Tree.{Fetched, faulty, fine, fetch_at, Env, Stage, stop, go, then, is_tall, put, put_all, split, is_over, settle, Below, flush, flush_all, insert_merged, insert_into, root_of, write_root, insert_tree}
use Rattle.rules.specs.Lookup.{Finding, clear, found, lookup_all}
use Rattle.rules.specs.Store.{or_else, fetch_page, env_of, store_after}
use Rattle.rules.specs.Insert.{Outcome, refuse, outcome, store_fault, count_fault, word_fault, order_fault, twin_fault, root_fault, bytes_fault, sort, leaf_of, write_fresh, insert_at, insert_under, insert_counted, initialise_counted, insert, initialise, batch_of, insert_bytes, initialise_bytes}

-- "7, 8 and 9": the refusals that may come once writing has begun
abbrev pub Late : Refusal → Type 0
Late r = (6 < number_of r) × (number_of r < 10)

-- a stage that may write a pages in all
abbrev pub Within : {A : Type 0} → ℕ → Stage A → Type 0
Within a (go x o) = length o ≤ a
Within a (stop r o) = (length o ≤ a) × (r ≡ NoRoom → length o ≡ a) × Late r

late_damaged : (p : PageId) (f : Fault) → Late (Damaged p f)
late_damaged p f = (omega arith, omega arith)

then_within :
    {A B : Type 0} (a : ℕ) (s : Stage A) (k : A → List Node → Stage B) → Within a s → ((x : A) (o : List Node) → length o ≤ a → Within a (k x o)) →
    Within a (then s k)
unfolding then
then_within a (stop r o) k w f = w
then_within a (go x o) k w f = f x o w

module _ (e : Env) where
  put_within : (n : Node) (o : List Node) → length o ≤ e.allow → Within e.allow (put e n o)
  unfolding put
  put_within n o h = side (is_tall n) refl (ltb (length o) e.allow) refl
    where
      side : (a : Bool) → is_tall n ≡ a → (b : Bool) → ltb (length o) e.allow ≡ b → Within e.allow (put e n o)
      side true x true y = simp (x, y) (h, λ q. absurd (apart (cc)), (omega arith, omega arith))
      side true x false y = simp (x, y) (h, λ q. absurd (apart (cc)), (omega arith, omega arith))
      side false x false y = simp (x, y) (h, λ q. omega (arith, ltb-false (length o) e.allow y), (omega arith, omega arith))
      side false x true y = simp (x, y, length-append) (omega (arith, ltb-true (length o) e.allow y))

  put_all_within : (ns : List Node) (o : List Node) → length o ≤ e.allow → Within e.allow (put_all e ns o)
  unfolding put_all
  put_all_within [] o h = h
  put_all_within (n ∷ ns) o h =
      then_within e.allow (put e n o) _ (put_within n o h) λ i o₁ h₁. then_within e.allow (put_all e ns o₁) _ (put_all_within ns o₁ h₁) λ is o₂ h₂. h₂

  split_within : (n : Node) (o : List Node) → length o ≤ e.allow → Within e.allow (split e n o)
  unfolding split
  split_within n o h = then_within e.allow (put_all e (split_parts e.cap n) o) _ (put_all_within _ o h) λ is o₁ h₁. h₁

  settle_within : (n : Node) (o : List Node) → length o ≤ e.allow → Within e.allow (settle e n o)
  unfolding settle
  settle_within n o h = side (is_over e n) refl
    where
      side : (a : Bool) → is_over e n ≡ a → Within e.allow (settle e n o)
      side true x = rw x (split_within n o h)
      side false x = rw x (then_within e.allow (put e n o) _ (put_within n o h) λ i o₁ h₁. h₁)

  abbrev BelowWithin : Below → Type 0
  BelowWithin ins = (p : PageId) (ds : List Datom) (o : List Node) → length o ≤ e.allow → Within e.allow (ins p ds o)

  flush_all_within : (ins : Below) → BelowWithin ins → (k : ℕ) (n : Node) (o : List Node) → length o ≤ e.allow → Within e.allow (flush_all e ins k n o)
  unfolding flush_all flush
  flush_all_within ins f zero n o h = h
  flush_all_within ins f (suc k) n o h = side (is_over e n && any_pending n.children) refl (flush_all_within ins f k)
    where
      side :
          (a : Bool) → (is_over e n && any_pending n.children) ≡ a →
          ((m : Node) (o₁ : List Node) → length o₁ ≤ e.allow → Within e.allow (flush_all e ins k m o₁)) → Within e.allow (flush_all e ins (suc k) n o)
      side false x ih = rw (flush_all, x) h
      side true x ih = rw (flush_all, x) (then_within e.allow _ _ (then_within e.allow _ _ (f _ _ o h) λ m o₁ h₁. h₁) λ m o₁ h₁. ih m o₁ h₁)

  merged_within :
      (k : Node → List Node → Stage Node) → ((n : Node) (o : List Node) → length o ≤ e.allow → Within e.allow (k n o)) → (p : PageId)
      (ds : List Datom) (r : Fetched) (o : List Node) → length o ≤ e.allow → Within e.allow (insert_merged e p ds k r o)
  unfolding insert_merged
  merged_within k f p ds (faulty x) o h = (h, λ q. absurd (apart (cc)), late_damaged p x)
  merged_within k f p ds (fine n) o h = side (meets e.cmp n.datoms ds) refl
    where
      side : (a : Bool) → meets e.cmp n.datoms ds ≡ a → Within e.allow (insert_merged e p ds k (fine n) o)
      side true x = rw x (h, λ q. absurd (apart (cc)), late_damaged p EqualDatoms)
      side false x = rw x (then_within e.allow _ _ (f _ o h) λ m o₁ h₁. settle_within m o₁ h₁)

  into_within : (l : ℕ) → BelowWithin (insert_into e l)
  unfolding insert_into
  into_within zero p ds o h = merged_within _ (λ n o₁ h₁. h₁) p ds (fetch_at e 0 p) o h
  into_within (suc l) p ds o h =
      merged_within _ (λ n o₁ h₁. flush_all_within _ (into_within l) (length n.datoms) n o₁ h₁) p ds (fetch_at e (suc l) p) o h

  root_within : (cs : List PageId) (n : Node) (o : List Node) → length o ≤ e.allow → Within e.allow (root_of e cs n o)
  unfolding root_of
  root_within [] n o h = put_within n o h
  root_within (c ∷ []) n o h = h
  root_within (c ∷ d ∷ cs) n o h = put_within n o h

  write_root_within : (k : ℕ) (n : Node) (o : List Node) → length o ≤ e.allow → Within e.allow (write_root e k n o)
  unfolding write_root
  write_root_within zero n o h = root_within n.children n o h
  write_root_within (suc k) n o h = side (is_over e n) refl (write_root_within k)
    where
      side :
          (a : Bool) → is_over e n ≡ a → ((m : Node) (o₁ : List Node) → length o₁ ≤ e.allow → Within e.allow (write_root e k m o₁)) →
          Within e.allow (write_root e (suc k) n o)
      side true x ih = rw (write_root, x) (then_within e.allow (split e n o) _ (split_within n o h) λ m o₁ h₁. ih m o₁ h₁)
      side false x ih = rw (write_root, x) (root_within n.children n o h)

  tree_within : (l : ℕ) (p : PageId) (ds : List Datom) (o : List Node) → length o ≤ e.allow → Within e.allow (insert_tree e l p ds o)
  unfolding insert_tree
  tree_within l p ds o h =
      then_within e.allow (insert_into e l p ds o) _ (into_within l p ds o h) λ n o₁ h₁. write_root_within (length n.datoms) n o₁ h₁

-- what a call gives that may write a pages
pub record Writes (a : ℕ) (o : Outcome) : Type 0 where
  pub fits : length o.pages ≤ a
  -- "Done carries the root and the number of pages written."
  pub counted : (root : PageId) (n : ℕ) → o.answer ≡ done_with root n → n ≡ length o.pages
  -- what is refused before anything is written
  pub early : (r : Refusal) → o.answer ≡ Err r → (Late r → ⊥) → o.pages ≡ []

refuse_writes : (a : ℕ) (r : Refusal) → Writes a (refuse r)
refuse_writes a r = record { fits = omega arith; counted = λ root n e. absurd (apart (cc)); early = λ q e l. refl }

check_writes : (a : ℕ) (f : Finding) (rest : Outcome) → Writes a rest → Writes a (or_else refuse f rest)
check_writes a clear rest w = w
check_writes a (found r) rest w = refuse_writes a r

stage_writes : (a : ℕ) (st : Stage PageId) → Within a st → Writes a (outcome st)
unfolding outcome
stage_writes a (go root o) w = record { fits = w; counted = λ r n e. sym (same_done e).1; early = λ r e l. absurd (apart (cc)) }
stage_writes a (stop r o) w =
    record {
      fits = w.0;
      counted = λ root n e. absurd (apart (cc));
      early = λ q e l. let k : r ≡ q = cc in absurd (l (rw k at w.2));
    }

-- the calls, on every input
module _ (t : DatomOrd) (x : Extent) (s : List ℕ) where
  abbrev allowed : ℕ
  allowed = (env_of t x s).allow

  fresh_writes : (ds : List Datom) → Writes allowed (write_fresh (env_of t x s) ds)
  unfolding write_fresh
  fresh_writes ds = stage_writes allowed _ (write_root_within (env_of t x s) (length ds) (leaf_of ds) [] (omega arith))

  at_writes : (root : PageId) (ds : List Datom) (r : Fetched) → Writes allowed (insert_at (env_of t x s) root ds r)
  unfolding insert_at
  at_writes root ds (faulty f) = refuse_writes allowed (Damaged root f)
  at_writes root ds (fine n) =
      check_writes allowed (lookup_all (env_of t x s) n.level root (fine n) 0 ds) _
      (stage_writes allowed _ (tree_within (env_of t x s) n.level root ds [] (omega arith)))

  under_writes : (root : PageId) (ds : List Datom) → Writes allowed (insert_under t x s root ds)
  unfolding insert_under
  under_writes root ds = side (is_none root) refl
    where
      side : (b : Bool) → is_none root ≡ b → Writes allowed (insert_under t x s root ds)
      side true e = rw e (fresh_writes ds)
      side false e = rw e (at_writes root ds (fetch_page t x s root))

  insert_counted_writes : (root : PageId) (ds : List Datom) → Writes allowed (insert_counted t x s root ds)
  unfolding insert_counted
  insert_counted_writes root ds =
      check_writes allowed (word_fault t ds) _
      (check_writes allowed (order_fault t.cmp ds) _ (check_writes allowed (root_fault x root) _ (under_writes root ds)))

  initialise_counted_writes : (ds : List Datom) → Writes allowed (initialise_counted t x s ds)
  unfolding initialise_counted
  initialise_counted_writes ds =
      check_writes allowed (word_fault t ds) _ (check_writes allowed (twin_fault t.cmp 0 [] ds) _ (fresh_writes (sort t.cmp ds)))

  module _ (scratch : ℕ) where
    -- past 1 and one check more
    checked : (f : Finding) {rest : Outcome} → Writes allowed rest → Writes allowed (or_else refuse (store_fault x s scratch) (or_else refuse f rest))
    checked f {rest} w = check_writes allowed (store_fault x s scratch) _ (check_writes allowed f rest w)

    pub insert_writes : (root : PageId) (ds : List Datom) → Writes allowed (insert t x s scratch root ds)
    unfolding insert
    insert_writes root ds = checked (count_fault ds) (insert_counted_writes root ds)

    pub initialise_writes : (ds : List Datom) → Writes allowed (initialise t x s scratch ds)
    unfolding initialise
    initialise_writes ds = checked (count_fault ds) (initialise_counted_writes ds)

    pub insert_bytes_writes : (root : PageId) (b : List ℕ) → Writes allowed (insert_bytes t x s scratch root b)
    unfolding insert_bytes
    insert_bytes_writes root b =
        checked (bytes_fault b) (check_writes allowed (count_fault (batch_of b)) _ (insert_counted_writes root (batch_of b)))

    pub initialise_bytes_writes : (b : List ℕ) → Writes allowed (initialise_bytes t x s scratch b)
    unfolding initialise_bytes
    initialise_bytes_writes b =
        checked (bytes_fault b) (check_writes allowed (count_fault (batch_of b)) _ (initialise_counted_writes (batch_of b)))

  module _ (o : Outcome) (w : Writes allowed o) where
    -- "1 to 6 and 10 change no byte of the store."
    pub early_unchanged : (r : Refusal) → o.answer ≡ Err r → (Late r → ⊥) → store_after x s o.pages ≡ s
    unfolding store_after spread
    early_unchanged r e l = rw (w.early r e l) (patch_none s (x.count * x.size))

    -- the pages written lie in the slice
    pub written_fits : 0 < x.size → x.count * x.size ≤ length s → (x.count + length o.pages) * x.size ≤ length s
    unfolding env_of
    written_fits pos f =
        let c : x.count ≤ length s / x.size = (le-div_iff_mul-le pos).1 f in
        let k : x.count + length o.pages ≤ length s / x.size = omega (arith, w.fits) in
        (le-div_iff_mul-le pos).0 k
