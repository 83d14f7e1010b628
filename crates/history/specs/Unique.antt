-- The tree is what the pages say, up to page numbers: pages determine it, and it determines the datoms and which children are none.
-- Rests on Pages.
use Rattle.std.specs.Prelude.{ℕ, List, ◌∷◌, map, ◌≡◌, refl}
use Rattle.std.proofs.Common.{ap, ap₂}
use Rattle.store.specs.declared.PageId.{PageId}
use Rattle.store.specs.Page.{is_none}
use Rattle.datom.specs.declared.Datom.{Datom}
use Rattle.rules.specs.Tree.{Fetched}
use Rattle.history.specs.Order.{clash}
use Rattle.history.specs.Tree.{Tree, last, item}
use Rattle.history.specs.Pages.{Place, page, Holds, no_page, a_page, h_last, h_item, child_flag}

pub same_tree : {f : PageId → Fetched} {w : Place} {t t₁ : Tree} → Holds f w t → Holds f w t₁ → t ≡ t₁
same_tree (no_page n) (no_page k) = refl
same_tree (no_page n) (a_page r e h) = absurd (clash r n)
same_tree (a_page r e h) (no_page n) = absurd (clash r n)
same_tree (a_page {n} r e h) (a_page {n = n₁} s u k) = same_tree h (rw again at k)
  where
    again : n₁ ≡ n
    again = cc
same_tree (h_last k e) (h_last h u) = ap last (same_tree k h)
same_tree (h_item d k h) (h_item _ u v) = ap₂ (λ (s r : Tree). item s d r) (same_tree k u) (same_tree h v)

pub same_pattern :
    {f g : PageId → Fetched} {l m : ℕ} {ds ds₁ : List Datom} {cs cs₁ : List PageId} {t : Tree} → Holds f (page l ds cs) t →
    Holds g (page m ds₁ cs₁) t →
    (ds ≡ ds₁) × (map is_none cs ≡ map is_none cs₁)
same_pattern (h_last k e) (h_last h u) = (refl, rw (child_flag k, child_flag h))
same_pattern (h_item {t} d k h) (h_item _ u v) =
    let w = same_pattern h v in (ap (d ∷◌) w.0, rw (child_flag k, child_flag u, w.1))
