-- What is known of a page that was read.
use Rattle.std.specs.Prelude.{◌≡◌, ℕ, ◌+◌, ◌*◌, ◌<◌, ◌≤◌, true, false, List, length, Ok, Err}
use Rattle.std.proofs.Common.{arith, ap, ◌∙◌, lt-ltb}
use Rattle.std.proofs.Math.Path.{sym}
use Rattle.store.specs.declared.PageId.{PageId}
use Rattle.store.specs.declared.Extent.{Extent}
use Rattle.store.specs.Size.{capacity}
use Rattle.store.specs.Laws.{cells_length}
use Rattle.datom.specs.Datom.{datom_of, datoms_of}
use Rattle.index.specs.Order.{DatomOrd}
use Rattle.answer.specs.declared.Fault.{Fault}
use Rattle.rules.specs.Page.{Node, node_of, level_of, count_of, rising}
use Rattle.rules.specs.Tree.{faulty, fine}
use Rattle.rules.specs.Store.{bad_store, page_at, fetched, fetch_fault, fetch_page}
use Rattle.rules.proofs.ReadLaws.{read_count, fetch_tells}
use Rattle.memory_store.specs.declared.reader.Header.{Header}
use Rattle.memory_store.specs.Reading.{told}
use Rattle.memory_store.specs.FetchLaws.{in_order, page_long}

-- page p of the store, as a node of level l and k datoms
abbrev pub node_at : Extent → List ℕ → PageId → ℕ → ℕ → Node
node_at x s p l k = node_of (capacity x.size) l k (page_at x s p)

-- a page that was read as a node of level l and k datoms; the fetch gives its bytes
pub record Opens (t : DatomOrd) (x : Extent) (s : List ℕ) (p : PageId) (l k : ℕ) : Type 0 where
  pub used : p.0 < x.count
  pub bytes : fetched x s p ≡ page_at x s p
  pub low : l ≤ 7
  pub few : k ≤ capacity x.size
  pub wide : 40 * capacity x.size + 10 ≤ length (page_at x s p)
  pub rise : rising t.cmp (datoms_of k (page_at x s p)) ≡ true

pub opens :
    (t : DatomOrd) (x : Extent) (s : List ℕ) (p : PageId) (l k : ℕ) → bad_store x s ≡ false → fetch_page t x s p ≡ fine (node_at x s p l k) →
    Opens t x s p l k
unfolding node_of fetched fetch_fault
opens t x s p l k ok e =
    let w = fetch_tells t x s p (node_at x s p l k) e in
    let o = in_order x s ok in
    let count : k ≡ count_of (capacity x.size) (page_at x s p) =
    sym (cells_length datom_of 32 k (page_at x s p)) ∙ read_count t (capacity x.size) p (page_at x s p) (node_at x s p l k) w.1 in
    let level : level_of (capacity x.size) (page_at x s p) ≡ l = ap (λ (n : Node). n.level) w.1.node in
    let long : length (page_at x s p) ≡ x.size = page_long x s p o w.0 in
    record {
      used = w.0;
      bytes = rw (ok, lt-ltb p.0 x.count w.0);
      low = omega (arith, w.1.low);
      few = omega (arith, w.1.few);
      wide = omega (arith, o.known.fits);
      rise = w.1.rise;
    }

-- what the reader tells of a page
module _ (t : DatomOrd) (x : Extent) (s : List ℕ) (p : PageId) where
  pub told_fine : (h : Header) → told x s p (Ok h) ≡ fetch_page t x s p → fetch_page t x s p ≡ fine (node_at x s p h.level h.count)
  unfolding told
  told_fine h e = sym e

  pub told_faulty : (f : Fault) → told x s p (Err f) ≡ fetch_page t x s p → fetch_page t x s p ≡ faulty f
  unfolding told
  told_faulty f e = sym e
