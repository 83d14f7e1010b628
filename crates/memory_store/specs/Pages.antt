-- The definitions of a store, over the pages that a call reads.
use Rattle.std.specs.Prelude.{◌≡◌, ℕ, true, false, List, Result, Ok, Err}
use Rattle.store.specs.declared.PageId.{PageId}
use Rattle.store.specs.declared.Extent.{Extent}
use Rattle.answer.specs.declared.Refusal.{Refusal}
use Rattle.answer.specs.declared.Refusal.TheVariants.{BadStore}
use Rattle.index.specs.declared.Order.{Order}
use Rattle.index.specs.Order.{DatomOrd, ord}
use Rattle.rules.specs.Tree.{Fetched, fine, Env}
use Rattle.rules.specs.Store.{bad_store, fetch_page, env_of}
use Rattle.memory_store.specs.Readable.{node_at}
use Rattle.memory_store.specs.declared.pages.Pages.{Pages}

-- the order of its datoms
abbrev pub order_of : Pages → DatomOrd
order_of p = ord p.order

-- a page as it is read
abbrev pub fetched_from : Pages → PageId → Fetched
fetched_from p = fetch_page (order_of p) p.extent p.store.now

-- what a walk reads by
abbrev pub read_from : Pages → Env
read_from p = env_of (order_of p) p.extent p.store.now

-- a page that was read as a node of level l and k datoms
abbrev pub ReadAs : Pages → PageId → ℕ → ℕ → Type 0
ReadAs p page l k = fetched_from p page ≡ fine (node_at p.extent p.store.now page l k)

-- the pages of a store with the bytes s, in the order o
pub record AreOf (s : List ℕ) (x : Extent) (o : Order) (p : Pages) : Type 0 where
  pub bytes : p.store.now ≡ s
  pub extent : p.extent ≡ x
  pub order : p.order ≡ o

-- and if the store is in order
abbrev pub OpenedAs : List ℕ → Extent → Order → Result Pages Refusal → Type 0
OpenedAs s x o (Ok p) = (bad_store x s ≡ false) × AreOf s x o p
OpenedAs s x o (Err r) = (bad_store x s ≡ true) × (r ≡ BadStore)
