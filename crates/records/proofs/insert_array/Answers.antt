-- `insert_array` meets its contract: what `insert_laid` says of the records that were laid. Assumes nothing.
use Prim.Native.Nat.{ℕ}
use mathlib.Core.Path.{◌≡◌, ◌∙◌, ap, subst}
use lib.ListN.{length}
use Rattle.rules.specs.Calls.{extent_of, insert_call}
use Rattle.entry.specs.Reply.{Replies}
use Rattle.records.specs.Laid.{first_of}
use Rattle.records.specs.Handed.{insert_call_first}
use Rattle.records.proofs.insert_array.Goals as goal

pub returns : goal.returns
returns c =
    let a = c.args in
    let s = c.lay_first.new.area in
    let same : length s ≡ length a.s.now = c.lay_first.auto.area in
    subst (Replies (extent_of a.recorded) a.store.now _ _)
    (insert_call_first a.recorded a.store.now a.heap.now a.n a.batch s c.lay_first.ensures a.root ∙ ap (λ (k : ℕ). insert_call a.recorded a.store.now a.heap.now k a.root (first_of a.n a.batch)) same)
    c.insert_laid.ensures
