-- An insert at a root that is a page: unreadable, or of level l and k datoms.
use Rattle.std.specs.Prelude.{ℕ, List, [], ◌≡◌}
use Rattle.store.specs.declared.PageId.{PageId}
use Rattle.store.specs.declared.Extent.{Extent}
use Rattle.datom.specs.declared.Datom.{Datom}
use Rattle.index.specs.Order.{DatomOrd}
use Rattle.answer.specs.declared.Fault.{Fault}
use Rattle.answer.specs.declared.Refusal.{Refusal}
use Rattle.answer.specs.declared.Refusal.TheVariants.{Damaged}
use Rattle.rules.specs.Page.{node_of}
use Rattle.rules.specs.Tree.{faulty, fine, insert_tree}
use Rattle.rules.specs.Lookup.{clear, found, lookup_all}
use Rattle.rules.specs.Store.{fetch_page, env_of}
use Rattle.rules.specs.Insert.{Outcome, refuse, outcome, insert_at}
use Rattle.memory_store.specs.Readable.{node_at}

module _ (t : DatomOrd) (x : Extent) (s : List ℕ) (root : PageId) (ds : List Datom) where
  abbrev inserted : Outcome
  inserted = insert_at (env_of t x s) root ds (fetch_page t x s root)

  pub at_bad : (f : Fault) → fetch_page t x s root ≡ faulty f → inserted ≡ refuse (Damaged root f)
  unfolding insert_at
  at_bad f e = rw e

  module _ (l k : ℕ) (read : fetch_page t x s root ≡ fine (node_at x s root l k)) where
    pub at_found : (r : Refusal) → found r ≡ lookup_all (env_of t x s) l root (fetch_page t x s root) 0 ds → inserted ≡ refuse r
    unfolding insert_at node_of
    at_found r h = rw (read, ← (rw read at h))

    pub at_clear : clear ≡ lookup_all (env_of t x s) l root (fetch_page t x s root) 0 ds → inserted ≡ outcome (insert_tree (env_of t x s) l root ds [])
    unfolding insert_at node_of
    at_clear h = rw (read, ← (rw read at h))
