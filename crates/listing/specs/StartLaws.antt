-- The refusals of a start, in their order.
use Rattle.answer.specs.Answers.{has_begun}
use Rattle.std.specs.Prelude.{ℕ, true, false, ◌&&◌, not, List, [], ◌≡◌, refl, Some}
use borrow.Author.Tests.{eq-eqb}
use Rattle.store.specs.declared.PageId.{PageId}
use Rattle.store.specs.declared.Extent.{Extent}
use Rattle.store.specs.Page.{is_none}
use Rattle.datom.specs.declared.Datom.{Datom}
use Rattle.index.specs.Order.{DatomOrd, is_less}
use Rattle.answer.specs.declared.Fault.{Fault}
use Rattle.answer.specs.declared.Refusal.TheVariants.{BadStore, BadBound, NoPage, Damaged}
use Rattle.rules.specs.Page.{node_of}
use Rattle.rules.specs.Tree.{faulty, fine, at_level}
use Rattle.rules.specs.Store.{bad_store, bad_root, fetch_page}
use Rattle.rules.specs.Listing.{cursor_of, refuse_start, join_paths, start_at, start_under, start_list}
use Rattle.listing.specs.Descent.{test_of, down_of}
use Rattle.memory_store.specs.Readable.{node_at}

module _ (t : DatomOrd) (x : Extent) (s : List ℕ) (root : PageId) (lo hi : Datom) where
  -- nothing between the bounds
  pub under_nothing :
      (is_less (t.cmp lo hi) && not (is_none root)) ≡ false → record { answer = has_begun; cursor = cursor_of [] [] } ≡ start_under t x s root lo hi
  unfolding start_under
  under_nothing e = rw e

  module _ (some : (is_less (t.cmp lo hi) && not (is_none root)) ≡ true) where
    is_under : start_under t x s root lo hi ≡ start_at t.cmp (fetch_page t x s) root lo hi (fetch_page t x s root)
    unfolding start_under
    is_under = rw some

    pub under_damaged : (f : Fault) → fetch_page t x s root ≡ faulty f → refuse_start (Damaged root f) ≡ start_under t x s root lo hi
    unfolding start_at
    under_damaged f e = rw (is_under, e)

    pub under_read :
        (l k : ℕ) → fetch_page t x s root ≡ fine (node_at x s root l k) →
        join_paths (down_of t x s (test_of t (Some lo)) l root) (down_of t x s (test_of t (Some hi)) l root) ≡ start_under t x s root lo hi
    unfolding start_at at_level node_of test_of
    under_read l k e = rw (is_under, e, eq-eqb l l refl)

  -- the checks
  pub start_bad : bad_store x s ≡ true → refuse_start BadStore ≡ start_list t x s root lo hi
  unfolding start_list
  start_bad e = rw e

  module _ (good : bad_store x s ≡ false) where
    pub start_lower : t.bound lo ≡ false → refuse_start BadBound ≡ start_list t x s root lo hi
    unfolding start_list
    start_lower e = rw (good, e)

    module _ (low : t.bound lo ≡ true) where
      pub start_upper : t.bound hi ≡ false → refuse_start BadBound ≡ start_list t x s root lo hi
      unfolding start_list
      start_upper e = rw (good, low, e)

      module _ (high : t.bound hi ≡ true) where
        pub start_root : bad_root x root ≡ true → refuse_start NoPage ≡ start_list t x s root lo hi
        unfolding start_list
        start_root e = rw (good, low, high, e)

        pub start_on : bad_root x root ≡ false → start_under t x s root lo hi ≡ start_list t x s root lo hi
        unfolding start_list
        start_on e = rw (good, low, high, e)
