-- `content::order_of_text` meets its contract: the constant's bytes, or those of the word. Assumes nothing.
use native.Mathlib.Omega.{arith}
use Prim.Native.Nat.{ℕ, ◌-◌}
use mathlib.Core.List.{List}
use mathlib.Core.Path.{sym, ◌∙◌, ap}
use Rattle.datom.specs.Value.{str_len}
use Rattle.index.specs.Order.{cmp_bytes, named}
use Rattle.index.specs.Kinds.{text_near, text_far, laid, texts}
use Rattle.index.proofs.content.order_of_text.Goals as goal

pub returns-then-is_external : goal.returns-then-is_external
returns-then-is_external c =
    let a = c.args in
    c.order_of_bytes.ensures
    ∙ rw (c.get_bytes.ensures, c.offset.ensures)
    (texts a.b.now (text_far a.heap.now a.v c.requires (sym c.is_external.ensures ∙ c.if-is_external.true)))

pub slice_bounds-order_of_bytes-end : goal.slice_bounds-order_of_bytes-end
unfolding str_len
slice_bounds-order_of_bytes-end c =
    let a = c.args in
    let k = text_near a.heap.now a.v c.requires (sym c.is_external.ensures ∙ c.if-is_external.false) in
    omega (arith, k.0)

pub returns : goal.returns
unfolding str_len
returns c =
    let a = c.args in
    let k = text_near a.heap.now a.v c.requires (sym c.is_external.ensures ∙ c.if-is_external.false) in
    c.order_of_bytes-2.ensures
    ∙ rw c.put_word.ensures (ap (λ (s : List ℕ). named (cmp_bytes s a.b.now)) (laid _ (str_len a.v - 0) (str_len a.v) a.v.0 (omega arith) (omega (arith, k.0))))
    ∙ texts a.b.now k.1
