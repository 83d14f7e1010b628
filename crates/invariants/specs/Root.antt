-- The checks of the whole, in their order, and the root.
use Rattle.answer.specs.Answers.{is_sound, unchecked, unsound_at}
use Rattle.std.specs.Prelude.{ℕ, true, false, List, ◌≡◌, refl, None}
use borrow.Author.Tests.{eq-eqb}
use Rattle.store.specs.declared.PageId.{PageId}
use Rattle.store.specs.declared.Extent.{Extent}
use Rattle.store.specs.Page.{is_none}
use Rattle.index.specs.Order.{DatomOrd}
use Rattle.answer.specs.declared.Fault.{Fault}
use Rattle.answer.specs.declared.Refusal.TheVariants.{BadStore, NoPage}
use Rattle.rules.specs.Page.{node_of}
use Rattle.rules.specs.Tree.{faulty, fine, at_level}
use Rattle.rules.specs.Store.{bad_store, bad_root, fetch_page}
use Rattle.rules.specs.Check.{check_root, check_tree}
use Rattle.memory_store.specs.Readable.{node_at}
use Rattle.invariants.specs.Bounds.{bound_of}
use Rattle.invariants.specs.Walk.{check_page}

module _ (t : DatomOrd) (x : Extent) (s : List ℕ) (root : PageId) where
  pub check_bad : bad_store x s ≡ true → unchecked BadStore ≡ check_tree t x s root
  unfolding check_tree
  check_bad e = rw e

  module _ (ok : bad_store x s ≡ false) where
    pub check_past : bad_root x root ≡ true → unchecked NoPage ≡ check_tree t x s root
    unfolding check_tree
    check_past e = rw (ok, e)

    module _ (known : bad_root x root ≡ false) where
      pub check_none : is_none root ≡ true → is_sound ≡ check_tree t x s root
      unfolding check_tree
      check_none e = rw (ok, known, e)

      module _ (real : is_none root ≡ false) where
        pub check_faulty : (f : Fault) → fetch_page t x s root ≡ faulty f → unsound_at root f ≡ check_tree t x s root
        unfolding check_tree check_root
        check_faulty f e = rw (ok, known, real, e)

        pub check_read :
            (l k : ℕ) → fetch_page t x s root ≡ fine (node_at x s root l k) →
            check_page t x s l root (bound_of None) (bound_of None) ≡ check_tree t x s root
        unfolding check_tree check_root at_level node_of bound_of
        check_read l k e = rw (ok, known, real, e, eq-eqb l l refl)
