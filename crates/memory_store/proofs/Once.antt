-- "that two results meeting it are equal is proved": of the two ways to have the pages of a store, whose promises say what they are.
use Rattle.std.specs.Prelude.{ℕ, List, ◌≡◌, true, false, Result, Ok, Err}
use Rattle.std.proofs.Common.{sym, ap, ◌∙◌}
use Rattle.store.specs.declared.Extent.{Extent}
use Rattle.store.specs.Size.{capacity}
use Rattle.answer.specs.declared.Refusal.{Refusal}
use Rattle.index.specs.declared.Order.{Order}
use Rattle.memory_store.specs.declared.pages.Pages.{Pages}
use Rattle.memory_store.specs.Pages.{AreOf, OpenedAs}

-- pages are the same by all that a call reads of them
pub record Alike (p q : Pages) : Type 0 where
  pub bytes : p.store.now ≡ q.store.now
  pub extent : p.extent ≡ q.extent
  pub capacity : p.capacity ≡ q.capacity
  pub order : p.order ≡ q.order

-- of `Pages::new`
pub are_once : (s : List ℕ) (x : Extent) (o : Order) (p q : Pages) → AreOf s x o p → AreOf s x o q → Alike p q
are_once s x o p q a b =
    let extent : p.extent ≡ q.extent = a.extent ∙ sym b.extent in
    record {
      bytes = a.bytes ∙ sym b.bytes;
      extent = extent;
      capacity = p.sized ∙ (ap (λ (e : Extent). capacity e.size) extent ∙ sym q.sized);
      order = a.order ∙ sym b.order;
    }

abbrev pub AlikeOr : Result Pages Refusal → Result Pages Refusal → Type 0
AlikeOr (Ok p) (Ok q) = Alike p q
AlikeOr (Ok p) (Err r) = true ≡ false
AlikeOr (Err r) (Ok q) = true ≡ false
AlikeOr (Err r) (Err t) = r ≡ t

-- of `Pages::in_order`
pub opened_once : (s : List ℕ) (x : Extent) (o : Order) (r q : Result Pages Refusal) → OpenedAs s x o r → OpenedAs s x o q → AlikeOr r q
opened_once s x o (Ok p) (Ok q) a b = are_once s x o p q a.1 b.1
opened_once s x o (Ok p) (Err r) a b = sym b.0 ∙ a.0
opened_once s x o (Err r) (Ok q) a b = sym a.0 ∙ b.0
opened_once s x o (Err r) (Err t) a b = a.1 ∙ sym b.1
