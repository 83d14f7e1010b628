-- `heap::is_bytes_at` meets its contract: each test of the definition in turn. Assumes nothing.
use native.Mathlib.Omega.{arith}
use mathlib.Core.Path.{sym, ◌∙◌}
use Rattle.heap.specs.Laws.{bytes_in, str_askew, str_gone, str_short, str_there}
use Rattle.heap.proofs.is_bytes_at.Goals as goal

-- src/lib.rt:91:9
pub returns-then-offset-ne0 : goal.returns-then-offset-ne0
returns-then-offset-ne0 c = str_askew _ _ c.if-offset-ne0.true

-- src/lib.rt:94:9
pub returns-then-not-has_bytes : goal.returns-then-not-has_bytes
returns-then-not-has_bytes c = str_gone _ _ c.if-offset-ne0.false (sym c.has_bytes.ensures ∙ c.if-not-has_bytes.true)

-- src/lib.rt:96:9
pub word-n-requires : goal.word-n-requires
word-n-requires c = (bytes_in _ _ (sym c.has_bytes.ensures ∙ c.if-not-has_bytes.false)).0

-- src/lib.rt:98:9
pub returns-then-n-lt-LEAST_LENGTH : goal.returns-then-n-lt-LEAST_LENGTH
returns-then-n-lt-LEAST_LENGTH c =
    str_short _ _ c.if-offset-ne0.false (sym c.has_bytes.ensures ∙ c.if-not-has_bytes.false)
    (omega (arith, c.word-n.ensures))

-- src/lib.rt:100:21
pub overflow_add-offset : goal.overflow_add-offset
overflow_add-offset c = omega (arith, (bytes_in _ _ (sym c.has_bytes.ensures ∙ c.if-not-has_bytes.false)).0)

-- src/lib.rt:100:21
pub overflow_add-offset-2 : goal.overflow_add-offset-2
overflow_add-offset-2 c = omega (arith, c.word-n.ensures, (bytes_in _ _ (sym c.has_bytes.ensures ∙ c.if-not-has_bytes.false)).1)

-- src/lib.rt:100:5
pub is_padded-requires : goal.is_padded-requires
is_padded-requires c =
    let w = bytes_in _ _ (sym c.has_bytes.ensures ∙ c.if-not-has_bytes.false) in
    (omega arith, omega (arith, c.word-n.ensures, w.1))

-- src/lib.rt:87:1
pub returns : goal.returns
returns c =
    let e = c.word-n.ensures in
    c.is_padded.ensures
    ∙ rw e
    (str_there _ _ c.if-offset-ne0.false (sym c.has_bytes.ensures ∙ c.if-not-has_bytes.false)
    (omega (arith, e, c.if-n-lt-LEAST_LENGTH.false)))
