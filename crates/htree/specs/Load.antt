-- What loading a page with a batch leaves for the insert into it.
use Rattle.std.specs.Prelude.{ℕ, ◌+◌, ◌*◌, ◌≤◌, true, false, List, ◌≡◌, length, drop, Result, Ok, Err}
use Rattle.std.proofs.Common.{arith, ◌∙◌}
use Rattle.std.proofs.Math.Path.{refl}
use Rattle.store.specs.declared.PageId.{PageId}
use Rattle.store.specs.declared.Extent.{Extent}
use Rattle.store.specs.Size.{capacity}
use Rattle.datom.specs.declared.Datom.{Datom}
use Rattle.datom.specs.Datom.{datoms_of}
use Rattle.index.specs.Order.{DatomOrd}
use Rattle.answer.specs.declared.Fault.{Fault}
use Rattle.answer.specs.declared.Fault.TheVariants.{EqualDatoms}
use Rattle.answer.specs.declared.Refusal.TheVariants.{Damaged}
use Rattle.rules.specs.Page.{Node, node_of}
use Rattle.rules.specs.Node.{meets, merge_node}
use Rattle.rules.specs.Tree.{fine, Env, Stage, stop, then, fetch_at, settle, insert_merged}
use Rattle.rules.specs.Store.{bad_store, page_at, env_of}
use Rattle.memory_store.specs.Readable.{node_at, Opens, opens}
use Rattle.memory_store.specs.Opened.{opened_of, at_its_level, opened_faulty, opened_node}

-- the batch lies behind the area
abbrev pub batch_at : ℕ → ℕ → List ℕ → List Datom
batch_at m n s = datoms_of n (drop (40 * m + 8) s)

-- whatever the insert goes on with: it has the merged node, which stands in the area, or stops as Damaged, with the fault
pub data Loads (t : DatomOrd) (x : Extent) (s : List ℕ) (l : ℕ) (p : PageId) (a : List ℕ) (m n : ℕ) (a₁ : List ℕ) : Result ℕ Fault → Type 0 where
  loads_node :
      {k : ℕ} → k ≤ capacity x.size + n → length a₁ ≡ length a →
      ((f : Node → List Node → Stage Node) (o : List Node) →
      insert_merged (env_of t x s) p (batch_at m n a) f (fetch_at (env_of t x s) l p) o
      ≡ then (f (node_of m l k a₁) o) λ n₁ o₁. settle (env_of t x s) n₁ o₁) →
      Loads t x s l p a m n a₁ (Ok k)
  loads_bad :
      {g : Fault} → length a₁ ≡ length a →
      ((f : Node → List Node → Stage Node) (o : List Node) →
      insert_merged (env_of t x s) p (batch_at m n a) f (fetch_at (env_of t x s) l p) o ≡ stop (Damaged p g) o) →
      Loads t x s l p a m n a₁ (Err g)

-- a merge that meets no equal datoms
merged :
    (e : Env) (p : PageId) (N : Node) (ds : List Datom) → meets e.cmp N.datoms ds ≡ false →
    (g : Node → List Node → Stage Node) (o : List Node) →
    insert_merged e p ds g (fine N) o ≡ then (g (merge_node e.cmp N ds) o) λ n₁ o₁. settle e n₁ o₁
unfolding insert_merged
merged e p N ds q g o = rw q

datoms_are : (c l k : ℕ) (s : List ℕ) → (node_of c l k s).datoms ≡ datoms_of k s
unfolding node_of
datoms_are c l k s = refl

-- by what the page was opened as
module _ (t : DatomOrd) (x : Extent) (s : List ℕ) (l : ℕ) (p : PageId) (a : List ℕ) (m n : ℕ) where
  pub load_faulty : (f : Fault) → Err f ≡ opened_of (fetch_at (env_of t x s) l p) → Loads t x s l p a m n a (Err f)
  unfolding insert_merged
  load_faulty f h = loads_bad {g = f} refl λ g o. rw (opened_faulty f (fetch_at (env_of t x s) l p) h)

  module _ (k : ℕ) (ok : bad_store x s ≡ false) (e : Ok k ≡ opened_of (fetch_at (env_of t x s) l p)) where
    pub load_opens : Opens t x s p l k
    load_opens = opens t x s p l k ok (opened_node t x s p l k e)

    module _ (a₁ : List ℕ) (same : length a₁ ≡ length a) where
      read : fetch_at (env_of t x s) l p ≡ fine (node_at x s p l k)
      read = let r = opened_node t x s p l k e in at_its_level t x s p l k r ∙ r

      pub load_met : meets t.cmp (datoms_of k (page_at x s p)) (batch_at m n a) ≡ true → Loads t x s l p a m n a₁ (Err EqualDatoms)
      unfolding insert_merged node_of env_of
      load_met q = loads_bad {g = EqualDatoms} same λ g o. rw (read, q)

      pub load_whole :
          meets t.cmp (datoms_of k (page_at x s p)) (batch_at m n a) ≡ false →
          node_of m l (k + n) a₁ ≡ merge_node t.cmp (node_at x s p l k) (batch_at m n a) → Loads t x s l p a m n a₁ (Ok (k + n))
      unfolding env_of
      load_whole q w =
          loads_node {k = k + n} (omega (arith, load_opens.few)) same
          λ g o. rw (read, w) (merged (env_of t x s) p (node_at x s p l k) (batch_at m n a) (rw (datoms_are (capacity x.size) l k (page_at x s p)) q) g o)
