-- A history in pages of 8192 bytes (document 02, Thirteen): d(0) to d(127) initialised, d(128) to d(204) inserted at the root that this gives. So
-- demand 3 speaks of something at this size, too. Rests on Example and on the rules, computed.
use Rattle.std.specs.Prelude.{Err}
use Rattle.std.specs.Prelude.{ℕ, [], ◌∷◌, ◌≡◌, refl}
use Rattle.std.proofs.Common.{arith, inl, inr}
use Rattle.store.specs.Words.{zeros}
use Rattle.store.specs.Size.{sizes}
use Rattle.datom.specs.Datom.{datoms_bytes}
use Rattle.answer.specs.declared.Refusal.TheVariants.{Repeated}
use Rattle.rules.specs.Lists.{In}
use Rattle.rules.specs.Table.{d, eavt, run}
use Rattle.rules.specs.Open.{rules}
use Rattle.history.specs.Statement.{Known, Moment, Call, inserts, initialises, no_root, beginning, outcome_of, after, calls, now, next, History, HandsOut}
use Rattle.history.specs.Sort.{within}
use Rattle.history.proofs.Example.{grown, no_heap, At, order_at, pages, lent, lists, one_formed, shared_again}

wide : In 8192 sizes
wide = inr (inr (inr (inl refl)))

-- room for four pages
unfoldable pub start : Moment
start = beginning 8192 (no_heap (zeros 32768))

abbrev pub root_one : Known
root_one = grown 0 (run 0 128) no_root

abbrev pub root_two : Known
root_two = grown 3 (run 128 77) root_one

abbrev first : Call
first = initialises (datoms_bytes (run 0 128)) 619584

abbrev second : Call
second = inserts root_one (datoms_bytes (run 128 77)) 619584

unfoldable pub after_one : Moment
after_one = after start first

unfoldable pub after_two : Moment
after_two = after after_one second

at_start : At start (pages 8192 0) [] 32768 (no_root ∷ [])
unfolding rules start
at_start = record { recorded = refl; heap = refl; roots = refl; long = refl }

at_one : At after_one (pages 8192 1) [] 32768 (root_one ∷ no_root ∷ [])
unfolding rules start after_one
at_one = record { recorded = refl; heap = refl; roots = refl; long = refl }

at_two : At after_two (pages 8192 4) [] 32768 (root_two ∷ root_one ∷ no_root ∷ [])
unfolding rules start after_one after_two
at_two = record { recorded = refl; heap = refl; roots = refl; long = refl }

pub example : History 8192 after_two
unfolding start after_one after_two
example = (
  no_heap (zeros 32768),
  next
      (next now (calls first (record { known = tt; lent = lent at_start (omega arith) (run 0 128) })))
      (calls second (record { known = rw at_one.roots (inl refl); lent = lent at_one (omega arith) (run 128 77) })),
)

-- every datom once, and at the older root what it had
pub lists_two : HandsOut after_two root_two (d 0) (d 205) (run 0 205)
unfolding rules within
lists_two = lists wide example root_two (rw at_two.roots (inl refl)) eavt (order_at at_two) (d 0) (d 205) (run 0 205) refl refl refl

pub lists_one : HandsOut after_two root_one (d 0) (d 205) (run 0 128)
unfolding rules within
lists_one = lists wide example root_one (rw at_two.roots (inr (inl refl))) eavt (order_at at_two) (d 0) (d 205) (run 0 128) refl refl refl

-- a datom of it that is sent again is Repeated
pub repeated : (i : ℕ) × ((outcome_of after_two (inserts root_two (datoms_bytes (run 128 1)) 619584)).answer ≡ Err (Repeated i))
unfolding rules
repeated =
    shared_again wide example root_two (rw at_two.roots (inl refl)) eavt (order_at at_two) (datoms_bytes (run 128 1)) (d 128) (d 128) 619584
    (lent at_two (omega arith) (run 128 1)) (one_formed eavt _ (d 128) refl refl refl refl) (rw at_two.recorded) (inl refl) (inl refl) refl
