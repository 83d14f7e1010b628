-- `florinwick_insert_records` meets its contract: what `insert_laid` says of the records that were laid. Assumes nothing.
use Rattle.std.proofs.Common.{◌≡◌, ℕ, ◌∙◌, ap, subst, length}
use Rattle.store.specs.Page.{page}
use Rattle.store.specs.Record.{extent_of}
use Rattle.rules.specs.Entry.{insert_reply, reply}
use Rattle.rules.specs.Insert.{Outcome}
use Rattle.rules.specs.Calls.{insert_call}
use Rattle.records.specs.Handed.{insert_call_handed}
use Rattle.florinwick.specs.Record.{record_in}
use Rattle.florinwick.specs.Words.{Replied}
use Rattle.florinwick.proofs.record.florinwick_insert_records.Goals as goal

pub returns : goal.returns
unfolding insert_reply
returns c =
    let a = c.args in
    let r = record_in a.recorded.now in
    let s = c.lay.new.area in
    let same : length s ≡ length a.scratch.now = c.lay.auto.area in
    subst (λ (o : Outcome). Replied c.insert_laid.result c.insert_laid.new.store c.insert_laid.new.area (reply (extent_of r) a.store.now a.area.now (page a.root) o))
    (insert_call_handed r a.store.now a.heap.now a.batch.now s c.lay.ensures (page a.root) ∙ ap (λ (k : ℕ). insert_call r a.store.now a.heap.now k (page a.root) a.batch.now) same)
    c.insert_laid.ensures
