-- `heap::get_bytes` meets its contract: the part behind the length word. Assumes nothing.
use native.Mathlib.Nat.{add-sub_cancel_left}
use native.Mathlib.Omega.{arith}
use mathlib.Core.Path.{sym, ◌∙◌}
use Rattle.heap.specs.Laws.{bytes_in, bytes_gone, bytes_there_law}
use Rattle.heap.proofs.get_bytes.Goals as goal

pub returns-then-not-has_bytes : goal.returns-then-not-has_bytes
returns-then-not-has_bytes c = bytes_gone _ _ (sym c.has_bytes.ensures ∙ c.if-not-has_bytes.true)

pub overflow_add-at : goal.overflow_add-at
overflow_add-at c = omega (arith, (bytes_in _ _ (sym c.has_bytes.ensures ∙ c.if-not-has_bytes.false)).0)

pub word-n-requires : goal.word-n-requires
word-n-requires c = (bytes_in _ _ (sym c.has_bytes.ensures ∙ c.if-not-has_bytes.false)).0

pub overflow_add-result : goal.overflow_add-result
overflow_add-result c = omega (arith, c.word-n.ensures, (bytes_in _ _ (sym c.has_bytes.ensures ∙ c.if-not-has_bytes.false)).1)

pub slice_bounds-result-end-2 : goal.slice_bounds-result-end-2
slice_bounds-result-end-2 c = omega (arith, c.word-n.ensures, (bytes_in _ _ (sym c.has_bytes.ensures ∙ c.if-not-has_bytes.false)).1)

pub returns : goal.returns
returns c =
    rw (c.word-n.ensures, add-sub_cancel_left)
    (bytes_there_law _ _ (sym c.has_bytes.ensures ∙ c.if-not-has_bytes.false))
