-- `append_constant` meets its contract: 1, 11 and 12, and then the part behind the heap length is stored whole. Assumes nothing.
use native.Mathlib.Omega.{arith}
use mathlib.Core.Path.{sym, ◌∙◌}
use Rattle.rules.specs.Appended.{heap_in}
use Rattle.append.specs.Ways.{heap_bad, has_inline, heap_full_law, has_room, part_lent, is_stored}
use Rattle.append.proofs.append_constant.Goals as goal

pub returns-then-is_bad : goal.returns-then-is_bad
returns-then-is_bad c =
    let a = c.args in
    heap_bad a.heap.now a.used a.inline a.tag a.word a.bytes.now (sym c.is_bad.ensures ∙ c.if-is_bad.true)

pub returns-then-inline : goal.returns-then-inline
returns-then-inline c =
    let a = c.args in
    has_inline a.heap.now a.used a.inline a.tag a.word a.bytes.now (sym c.is_bad.ensures ∙ c.if-is_bad.false) c.if-inline.true

pub is_full-requires : goal.is_full-requires
is_full-requires c = (heap_in _ _ (sym c.is_bad.ensures ∙ c.if-is_bad.false)).0

pub returns-then-is_full : goal.returns-then-is_full
returns-then-is_full c =
    let a = c.args in
    heap_full_law a.heap.now a.used a.inline a.tag a.word a.bytes.now (sym c.is_bad.ensures ∙ c.if-is_bad.false) c.if-inline.false (sym c.is_full.ensures ∙ c.if-is_full.true)

pub overflow_add-at : goal.overflow_add-at
overflow_add-at c = omega (arith, (has_room _ _ _ (sym c.is_full.ensures ∙ c.if-is_full.false)).1)

pub slice_bounds-put_constant-end : goal.slice_bounds-put_constant-end
slice_bounds-put_constant-end c = omega (arith, (has_room _ _ _ (sym c.is_full.ensures ∙ c.if-is_full.false)).1)

pub put_constant-requires : goal.put_constant-requires
put_constant-requires c = part_lent _ _ _ (has_room _ _ _ (sym c.is_full.ensures ∙ c.if-is_full.false)).1

pub overflow_add-name : goal.overflow_add-name
overflow_add-name c = omega (arith, c.requires, (has_room _ _ _ (sym c.is_full.ensures ∙ c.if-is_full.false)).0)

pub returns : goal.returns
returns c =
    let a = c.args in
    rw c.put_constant.ensures
    (is_stored a.heap.now a.used a.inline a.tag a.word a.bytes.now (sym c.is_bad.ensures ∙ c.if-is_bad.false) c.if-inline.false (sym c.is_full.ensures ∙ c.if-is_full.false))
