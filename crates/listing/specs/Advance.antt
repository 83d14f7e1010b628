-- What follows once the datom of a level is taken.
use Rattle.answer.specs.Answers.{yielding, ended_step}
use Rattle.std.specs.Prelude.{ℕ, pred, ◌+◌, ◌≤◌, List, ◌≡◌, Option, None, Some, Result, Ok, Err, length, get_or, set}
use Rattle.store.specs.declared.Extent.{Extent}
use Rattle.datom.specs.declared.Datom.{Datom}
use Rattle.index.specs.Order.{DatomOrd}
use Rattle.answer.specs.declared.Damage.{Damage}
use Rattle.answer.specs.declared.Refusal.{Refusal}
use Rattle.answer.specs.Damage.{damaged}
use Rattle.answer.specs.declared.Cursor.{Cursor}
use Rattle.answer.specs.declared.Stepped.{Stepped}
use Rattle.rules.specs.Tree.{Fetched, fine}
use Rattle.rules.specs.Store.{fetch_page}
use Rattle.rules.specs.Listing.{Path, after, cursor_of, end_frames, staying, refuse_step}
use Rattle.listing.specs.declared.way.Way.{Way}
use Rattle.listing.specs.declared.step.Yielded.{Yielded}
use Rattle.listing.specs.Way.{frames_of}
use Rattle.listing.specs.Levels.{node_in, open_at, opens_of}
use Rattle.listing.specs.Descent.{descent_of}

abbrev pub begin_of : Cursor → Way
begin_of c = record { indices = c.begin_indices; pages = c.begin_pages }

-- a page that was read, with an index within it
pub record Within (r : Fetched) (i : ℕ) : Type 0 where
  pub read : r ≡ fine (node_in r)
  pub most : i ≤ length (node_in r).datoms

-- the index of level l taken
abbrev pub taken : Way → ℕ → Way
taken w l = record { indices = set w.indices l (get_or w.indices l 0 + 1); pages = w.pages }

-- the levels below l once its datom is taken, by the rules
abbrev pub after_at : DatomOrd → Extent → List ℕ → Way → ℕ → Path
after_at t x s w l = after (fetch_page t x s) (open_at (fetch_page t x s) w.indices w.pages l) (opens_of (fetch_page t x s) w.indices w.pages l)

-- "then advances as `Iter::next` does": they are written below the index that was taken
unfoldable pub advanced : DatomOrd → Extent → List ℕ → Way → ℕ → Result Way Damage
advanced t x s w l = descent_of (pred l) (taken w l) (after_at t x s w l)

unfoldable pub yield_of : Cursor → Datom → Result Way Damage → Stepped
yield_of c d (Err g) = refuse_step c (damaged g)
yield_of c d (Ok w) = record { answer = yielding d; cursor = cursor_of (frames_of c.height w) (end_frames c) }

-- a step by what it yields, if the listing has not ended, or by its refusal. Without a datom the cursor stays as it was
abbrev pub stepped_as : Cursor → Result (Option Yielded) Refusal → Stepped
stepped_as c (Ok (Some y)) = record { answer = yielding y.datom; cursor = y.cursor }
stepped_as c (Ok None) = staying c ended_step
stepped_as c (Err r) = refuse_step c r
