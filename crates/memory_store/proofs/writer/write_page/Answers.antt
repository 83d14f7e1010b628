-- `write_page` meets its contract: what three stores lay down, each with zeros behind it, is the encoding. Assumes nothing.
use Rattle.std.proofs.Common.{◌∙◌, arith}
use native.Mathlib.Nat.{add-sub_cancel_left}
use Rattle.memory_store.specs.WriterLaws.{page_made}
use Rattle.memory_store.proofs.writer.write_page.Goals as goal

pub returns : goal.returns
returns c =
    let a = c.args in
    c.put_padded-3.ensures
    ∙ rw (c.put_padded-2.ensures, c.put_padded.ensures, add-sub_cancel_left, add-sub_cancel_left)
    (page_made a.free.now a.area.now (λ j. (c.shared_slice_known-1.given j).fits) a.at a.size a.c a.level a.m a.n a.i a.a (omega arith)
    (omega arith) (omega arith) (omega arith) (omega arith) (omega arith))
