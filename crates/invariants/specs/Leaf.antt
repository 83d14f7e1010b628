-- A page that was read at level 0 has no real child.
use Rattle.std.specs.Prelude.{ℕ, zero, suc, ◌*◌, ◌<◌, ◌≤◌, Bool, true, false, List, [], ◌∷◌, ◌≡◌, refl, length, drop, get_or}
use Rattle.std.proofs.Common.{arith, eq-eqb}
use Rattle.store.specs.declared.PageId.{PageId}
use Rattle.store.specs.declared.Extent.{Extent}
use Rattle.store.specs.Page.{none, is_none, page_of}
use Rattle.store.specs.Size.{capacity}
use Rattle.store.specs.Laws.{apart, both, cells_length}
use Rattle.store.specs.Cells.{pages_at}
use Rattle.index.specs.Order.{DatomOrd}
use Rattle.answer.specs.declared.Rule.TheVariants.{LeafChild}
use Rattle.rules.specs.Page.{child_at, children_of, Node, broken, good, node_of, all, child_rules}
use Rattle.rules.specs.Tree.{fine}
use Rattle.rules.specs.Store.{page_at, fetch_page}
use Rattle.rules.proofs.ReadLaws.{fetch_tells}
use Rattle.memory_store.specs.Readable.{node_at}

all_at : (cs : List PageId) (i : ℕ) → all is_none cs ≡ true → i < length cs → is_none (get_or cs i none) ≡ true
unfolding all
all_at [] i e h = absurd (omega arith)
all_at (c ∷ cs) zero e h = (both (is_none c) (all is_none cs) e).0
all_at (c ∷ cs) (suc i) e h = all_at cs i (both (is_none c) (all is_none cs) e).1 (omega arith)

bare : (id : PageId) (n : Node) → child_rules id n ≡ good n → n.level ≡ 0 → all is_none n.children ≡ true
unfolding child_rules
bare id n e z = side (all is_none n.children) refl
  where
    side : (b : Bool) → all is_none n.children ≡ b → all is_none n.children ≡ true
    side true u = u
    side false u = let w : broken LeafChild ≡ good n = rw (eq-eqb n.level 0 z, u) at e in absurd (apart (cc))

-- so a real child is above level 0
pub real_above :
    (t : DatomOrd) (x : Extent) (s : List ℕ) (p : PageId) (l k : ℕ) → fetch_page t x s p ≡ fine (node_at x s p l k) → (i : ℕ) → i ≤ k →
    is_none (child_at (capacity x.size) (page_at x s p) i) ≡ false → l ≡ 0 → ⊥
unfolding node_of
real_above t x s p l k e i h r z =
    let R = (fetch_tells t x s p (node_at x s p l k) e).1 in
    let cs = children_of (capacity x.size) (suc k) (page_at x s p) in
    let a : is_none (get_or cs i none) ≡ true = all_at cs i (bare p (node_at x s p l k) R.kids z) (omega (arith, cells_length page_of 8 (suc k) (drop (32 * capacity x.size) (page_at x s p)))) in
    let b : is_none (child_at (capacity x.size) (page_at x s p) i) ≡ true = rw (pages_at (suc k) i (32 * capacity x.size) (page_at x s p) none (omega arith)) at a in
    apart (cc)
