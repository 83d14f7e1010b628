-- The checks of a step, in their order.
use Rattle.answer.specs.Answers.{ended_step}
use Rattle.std.specs.Prelude.{ℕ, ◌<◌, ◌≤◌, true, false, List, ◌≡◌}
use borrow.Author.Tests.{le-ltb, lt-ltb}
use Rattle.store.specs.declared.Extent.{Extent}
use Rattle.store.specs.Page.{none}
use Rattle.index.specs.Order.{DatomOrd}
use Rattle.answer.specs.declared.Fault.TheVariants.{TooHigh}
use Rattle.answer.specs.declared.Refusal.TheVariants.{BadStore, Damaged}
use Rattle.answer.specs.declared.Cursor.{Cursor}
use Rattle.rules.specs.Store.{bad_store, fetch_page}
use Rattle.rules.specs.Listing.{begin_frames, end_frames, open_frames, same_indices, refuse_step, staying, onward, step_list}

module _ (t : DatomOrd) (x : Extent) (s : List ℕ) (c : Cursor) where
  pub step_bad : bad_store x s ≡ true → refuse_step c BadStore ≡ step_list t x s c
  unfolding step_list
  step_bad e = rw e

  module _ (good : bad_store x s ≡ false) where
    pub step_tall : 8 < c.height → refuse_step c (Damaged none TooHigh) ≡ step_list t x s c
    unfolding step_list
    step_tall h = rw (good, lt-ltb 8 c.height h)

    module _ (low : c.height ≤ 8) where
      pub step_ended : same_indices (begin_frames c) (end_frames c) ≡ true → staying c ended_step ≡ step_list t x s c
      unfolding step_list
      step_ended e = rw (good, le-ltb 8 c.height low, e)

      pub step_goes :
          same_indices (begin_frames c) (end_frames c) ≡ false →
          onward t.cmp (fetch_page t x s) c (open_frames (fetch_page t x s) (begin_frames c)) ≡ step_list t x s c
      unfolding step_list
      step_goes e = rw (good, le-ltb 8 c.height low, e)
