-- What the check finds at a root whose pages hold a good tree. Rests on Sound.
use Rattle.answer.specs.Answers.{is_sound}
use Rattle.std.specs.Prelude.{Ok}
use Rattle.std.specs.Prelude.{ℕ, false, cond, List, ◌≡◌}
use Rattle.store.specs.declared.PageId.{PageId}
use Rattle.store.specs.declared.Extent.{Extent}
use Rattle.store.specs.Page.{is_none}
use Rattle.datom.specs.declared.Datom.{Datom}
use Rattle.index.specs.Order.{DatomOrd}
use Rattle.rules.specs.Store.{bad_store, fetch_page}
use Rattle.rules.specs.Check.{check_root, check_tree}
use Rattle.rules.proofs.Sizes.{level_is, level_fine}
use Rattle.history.specs.Tree.{Tree, Good}
use Rattle.history.specs.Pages.{child, Holds, no_page, a_page}
use Rattle.history.specs.Sound.{root_sound}
use Rattle.history.proofs.Calls.{RootIs, root_known}

pub check_root_law :
    (t : DatomOrd) (x : Extent) (s : List ℕ) → bad_store x s ≡ false → (root : PageId) (u : List Datom) → RootIs t x s root u →
    check_tree t x s root ≡ is_sound
unfolding check_tree check_root
check_root_law t x s in_good_order root u R = rw (in_good_order, root_known t x s root R.holds) (side R.holds R.good)
  where
    side :
        {l : ℕ} {tr : Tree} → Holds (fetch_page t x s) (child l root) tr → Good t.cmp tr →
        cond (is_none root) is_sound (check_root t.cmp (fetch_page t x s) root (fetch_page t x s root)) ≡ is_sound
    side (no_page n) g = rw n
    side (a_page {l} {n} {t = tr} e q h) g =
        rw (e, level_fine l (fetch_page t x s root) n q)
        (root_sound t.cmp (fetch_page t x s) n.level root n tr (rw (level_is l (fetch_page t x s root) n q) h) g)
