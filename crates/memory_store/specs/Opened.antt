-- What a page is opened as at the level that is asked for.
use Rattle.std.specs.Prelude.{◌≡◌, ℕ, Bool, true, false, List, length, ◌==◌, ◌≢◌, refl, Result, Ok, Err}
use Rattle.std.proofs.Common.{sym, ap, ◌∙◌}
use borrow.Author.Tests.{eqb-true, eq-eqb, ne_eqb}
use Rattle.store.specs.declared.PageId.{PageId}
use Rattle.store.specs.declared.Extent.{Extent}
use Rattle.store.specs.Size.{capacity}
use Rattle.store.specs.Laws.{apart, cells_length}
use Rattle.datom.specs.Datom.{datom_of}
use Rattle.index.specs.Order.{DatomOrd}
use Rattle.answer.specs.declared.Fault.{Fault}
use Rattle.answer.specs.declared.Fault.TheVariants.{WrongLevel}
use Rattle.rules.specs.Page.{Node, node_of, level_of, count_of}
use Rattle.rules.specs.Tree.{Fetched, faulty, fine, at_level, fetch_at}
use Rattle.rules.specs.Store.{page_at, fetch_page, env_of}
use Rattle.rules.proofs.ReadLaws.{read_count, fetch_tells}
use Rattle.memory_store.specs.declared.reader.Header.{Header}
use Rattle.memory_store.specs.Reading.{told}
use Rattle.memory_store.specs.Readable.{node_at, told_fine}

-- the code's name of what reading a page gives
unfoldable pub opened_of : Fetched → Result ℕ Fault
opened_of (faulty f) = Err f
opened_of (fine n) = Ok (length n.datoms)

-- a page that was read at a level
module _ (t : DatomOrd) (x : Extent) (s : List ℕ) (p : PageId) (l k : ℕ) (e : fetch_page t x s p ≡ fine (node_at x s p l k)) where
  pub at_its_level : fetch_at (env_of t x s) l p ≡ fetch_page t x s p
  unfolding fetch_at at_level env_of node_of
  at_its_level = rw (e, eq-eqb l l refl)

  pub node_opened : Ok k ≡ opened_of (fetch_at (env_of t x s) l p)
  unfolding opened_of node_of
  node_opened = rw (at_its_level, e, cells_length datom_of 32 k (page_at x s p))

-- what the reader tells of a page, at a level
module _ (t : DatomOrd) (x : Extent) (s : List ℕ) (p : PageId) where
  pub open_faulty : (f : Fault) (l : ℕ) → told x s p (Err f) ≡ fetch_page t x s p → Err f ≡ opened_of (fetch_at (env_of t x s) l p)
  unfolding told opened_of fetch_at at_level env_of
  open_faulty f l e = rw (← e)

  module _ (h : Header) (e : told x s p (Ok h) ≡ fetch_page t x s p) (m : ℕ) where
    pub open_other : (h.level ≢ m) → Err WrongLevel ≡ opened_of (fetch_at (env_of t x s) m p)
    unfolding told opened_of fetch_at at_level env_of node_of
    open_other n = rw (← e, ne_eqb h.level m n)

    pub open_node : h.level ≡ m → Ok h.count ≡ opened_of (fetch_at (env_of t x s) m p)
    open_node n = rw (← n) (node_opened t x s p h.level h.count (told_fine t x s p h e))

-- and back: a page that was opened with a fault has that fault
pub opened_faulty : (f : Fault) (r : Fetched) → Err f ≡ opened_of r → r ≡ faulty f
unfolding opened_of
opened_faulty f (faulty g) e = let k : g ≡ f = cc in ap faulty k
opened_faulty f (fine n) e = absurd (apart (cc))

-- a page that was opened as a node was read at that level
pub opened_node :
    (t : DatomOrd) (x : Extent) (s : List ℕ) (p : PageId) (l k : ℕ) → Ok k ≡ opened_of (fetch_at (env_of t x s) l p) →
    fetch_page t x s p ≡ fine (node_at x s p l k)
unfolding opened_of fetch_at at_level env_of node_of
opened_node t x s p l k e = side (fetch_page t x s p) refl
  where
    level : (n : Node) → fetch_page t x s p ≡ fine n → (b : Bool) → (n.level == l) ≡ b → fine n ≡ fine (node_at x s p l k)
    level n u false v = let w : Ok k ≡ Err WrongLevel = rw (u, v) at e in absurd (apart (cc))
    level n u true v =
        let R = (fetch_tells t x s p n u).1 in
        let w : Ok k ≡ Ok (length n.datoms) = rw (u, v) at e in
        let many : k ≡ length n.datoms = cc in
        let a : level_of (capacity x.size) (page_at x s p) ≡ l = ap (λ (m : Node). m.level) R.node ∙ eqb-true n.level l v in
        let b : count_of (capacity x.size) (page_at x s p) ≡ k = sym (read_count t (capacity x.size) p (page_at x s p) n R) ∙ sym many in
        ap fine (rw (a, b) at (sym R.node))

    side : (r : Fetched) → fetch_page t x s p ≡ r → fetch_page t x s p ≡ fine (node_at x s p l k)
    side (faulty f) u = let w : Ok k ≡ Err f = rw u at e in absurd (apart (cc))
    side (fine n) u = u ∙ level n u (n.level == l) refl
