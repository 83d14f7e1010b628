-- What insert does with a node once nothing more is flushed: it is split, or becomes one page.
use Prim.Native.Nat.{ℕ, suc, ◌+◌, ◌*◌, ◌≤◌, ◌<◌}
use Rattle.std.proofs.Common.{le-mul_of_pos_right, arith, ◌∙◌, lt-ltb, le-ltb}
use mathlib.Core.List.{List, [], ◌∷◌, append-nil}
use Rattle.std.specs.Prelude.{◌≡◌, length, Ok, Err}
use Rattle.store.specs.declared.PageId.{PageId}
use Rattle.store.specs.declared.Extent.{Extent}
use Rattle.store.specs.Words.{cells, patch}
use Rattle.store.specs.Page.{page_bytes}
use Rattle.store.specs.Size.{capacity}
use Rattle.store.specs.Laws.{cells_length}
use Rattle.datom.specs.Datom.{datom_of}
use Rattle.index.specs.Order.{DatomOrd}
use Rattle.rules.specs.Page.{Node, node_of}
use Rattle.rules.specs.Tree.{go, then, put, split, is_over, settle}
use Rattle.rules.specs.Store.{env_of}
use Rattle.memory_store.specs.FetchLaws.{in_order}
use Rattle.node.specs.Parts.{splitting_start, splitting_end}
use Rattle.htree.specs.declared.place.Failed.{Failed}
use Rattle.htree.specs.Told.{Ready, PutTold, put_is, put_is_not, Went, Stopped}
use Rattle.htree.specs.Wrote.{wrote_none}

-- the pages past the count, as the code counts them
pub ready_next : {x : Extent} {s : List ℕ} {c w : ℕ} → Ready x s c w → x.count + w ≤ length s
ready_next {x} {s} {c} {w} R =
    omega (arith, R.room, le-mul_of_pos_right {m = x.size} (x.count + w) (omega (arith, (in_order x s R.good).known.fits)))

module _ (t : DatomOrd) (x : Extent) (s : List ℕ) (m l n : ℕ) (a : List ℕ) where
  pub settle_split : capacity x.size < n → (o : List Node) → settle (env_of t x s) (node_of m l n a) o ≡ split (env_of t x s) (node_of m l n a) o
  unfolding settle is_over env_of node_of
  settle_split h o = rw (lt-ltb (capacity x.size) (length (cells datom_of 32 n a)) (omega (arith, cells_length datom_of 32 n a)))

  module _ (h : n ≤ capacity x.size) (fit : n ≤ m) (big : 40 * m + 8 ≤ length a) (o : List Node) where
    one_page :
        settle (env_of t x s) (node_of m l n a) o
        ≡ then (put (env_of t x s) (node_of m l n a) o) λ id o₁. go (record { level = suc l; datoms = []; children = id ∷ [] }) o₁
    unfolding settle is_over env_of node_of
    one_page = rw (le-ltb (capacity x.size) (length (cells datom_of 32 n a)) (omega (arith, cells_length datom_of 32 n a)))

    pub settle_put :
        (s₁ : List ℕ) (id : PageId) → PutTold x s s₁ (node_of m l n a) o (Ok id) (put (env_of t x s) (node_of m l n a) o) →
        Went x s s₁ m (patch a (32 * m + 8 * 0) (page_bytes id)) o 0 (length o + 1) (settle (env_of t x s) (node_of m l n a) o)
    unfolding then
    settle_put s₁ id T =
        let u = put_is T in
        record {
          node = record { level = suc l; datoms = []; children = id ∷ [] };
          new = node_of m l n a ∷ [];
          stage = one_page ∙ rw u.0;
          count = omega arith;
          area = splitting_end (splitting_start m n a) big fit (suc l) id (omega arith) u.2;
          few = omega arith;
          wrote = u.1;
        }

    pub settle_refused :
        (s₁ : List ℕ) (f : Failed) → PutTold x s s₁ (node_of m l n a) o (Err f) (put (env_of t x s) (node_of m l n a) o) →
        (x.count + length o) * x.size ≤ length s → Stopped x s s₁ o f.refusal f.written (settle (env_of t x s) (node_of m l n a) o)
    unfolding then
    settle_refused s₁ f T room =
        let u = put_is_not T in
        record {
          new = [];
          stage = one_page ∙ rw (u.0, append-nil);
          count = omega (arith, u.2);
          wrote = rw u.1 (wrote_none x s (length o) room);
        }
