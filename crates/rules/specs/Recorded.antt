-- What the record's own refusals come to: in a known order, with a heap in order, a call goes by its own rules.
use Rattle.std.specs.Prelude.{Err, Ok}
use Rattle.answer.specs.Answers.{all_held, unchecked}
use Rattle.std.specs.Prelude.{ℕ, Bool, List, ◌≡◌}
use Rattle.std.proofs.Math.Bool.{true, false}
use Rattle.store.specs.declared.PageId.{PageId}
use Rattle.store.specs.declared.StoreRecord.{StoreRecord}
use Rattle.datom.specs.declared.Datom.{Datom}
use Rattle.index.specs.declared.Index.{Index}
use Rattle.index.specs.Order.{index_of}
use Rattle.index.specs.Numbers.{index_number, number_names}
use Rattle.answer.specs.declared.Refusal.{Refusal}
use Rattle.answer.specs.declared.Refusal.TheVariants.{BadStore}
use Rattle.answer.specs.declared.Cursor.{Cursor}
use Rattle.rules.specs.Lookup.{Finding, found}
use Rattle.rules.specs.Store.{refuse_if, or_else}
use Rattle.rules.specs.Append.{bad_heap}
use Rattle.rules.specs.Insert.{refuse, store_fault, insert_bytes, initialise_bytes}
use Rattle.rules.specs.Listing.{refuse_start, refuse_step, start_list, step_list}
use Rattle.rules.specs.Check.{check_tree}
use Rattle.rules.specs.Held.{held_fault, held_bytes}
use Rattle.rules.specs.Calls.{extent_of, ord_of, is_unknown, record_fault, bad_pages, bad_room, insert_bytes_call, initialise_bytes_call, held_call, start_call, step_call, check_call}

-- every order may be named
pub order_known_law : (i : Index) → is_unknown (index_of (index_number i)) ≡ false
order_known_law i = rw (number_names i)

module _ (r : StoreRecord) (s h : List ℕ) (good : bad_heap r.heap h ≡ false) (known : is_unknown (index_of r.order) ≡ false) where
  -- refusing twice for the same is refusing once
  once : {A : Type 0} (f : Refusal → A) (bad : Bool) (rest : A) →
      or_else f (record_fault r h bad) (or_else f (refuse_if bad BadStore) rest) ≡ or_else f (refuse_if bad BadStore) rest
  unfolding record_fault
  once f true rest = rw good
  once f false rest = rw (good, known)

  pub insert_call_law :
      (scratch : ℕ) (root : PageId) (b : List ℕ) → insert_bytes_call r s h scratch root b ≡ insert_bytes (ord_of r h) (extent_of r) s scratch root b
  unfolding insert_bytes_call insert_bytes store_fault
  insert_call_law scratch root b = once refuse (bad_room r s scratch) _

  pub initialise_call_law :
      (scratch : ℕ) (b : List ℕ) → initialise_bytes_call r s h scratch b ≡ initialise_bytes (ord_of r h) (extent_of r) s scratch b
  unfolding initialise_bytes_call initialise_bytes store_fault
  initialise_call_law scratch b = once refuse (bad_room r s scratch) _

  pub held_call_law : (root : PageId) (b : List ℕ) → held_call r s h root b ≡ held_bytes (ord_of r h) (extent_of r) s root b
  unfolding held_call held_bytes held_fault
  held_call_law root b = side (bad_pages r s) _
    where
      side : (bad : Bool) (rest : Finding) →
          or_else Err (record_fault r h bad) (or_else Err (or_else found (refuse_if bad BadStore) rest) all_held)
          ≡ or_else Err (or_else found (refuse_if bad BadStore) rest) all_held
      side true rest = once Err true all_held
      side false rest = once Err false (or_else Err rest all_held)

  pub start_call_law : (root : PageId) (lo hi : Datom) → start_call r s h root lo hi ≡ start_list (ord_of r h) (extent_of r) s root lo hi
  unfolding start_call start_list
  start_call_law root lo hi = once refuse_start (bad_pages r s) _

  pub step_call_law : (c : Cursor) → step_call r s h c ≡ step_list (ord_of r h) (extent_of r) s c
  unfolding step_call step_list
  step_call_law c = once (refuse_step c) (bad_pages r s) _

  pub check_call_law : (root : PageId) → check_call r s h root ≡ check_tree (ord_of r h) (extent_of r) s root
  unfolding check_call check_tree
  check_call_law root = once unchecked (bad_pages r s) _
