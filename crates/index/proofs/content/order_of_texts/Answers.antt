-- `content::order_of_texts` meets its contract: one byte string after the other is made bytes. Assumes nothing.
use Prim.Native.Nat.{ℕ, ◌-◌}
use native.Mathlib.Omega.{arith}
use mathlib.Core.List.{List}
use mathlib.Core.Path.{sym, ◌∙◌, ap}
use Rattle.datom.specs.Value.{str_len, str, content}
use Rattle.index.specs.Order.{cmp_content, named}
use Rattle.index.specs.Kinds.{text_near, text_far, laid}
use Rattle.index.proofs.content.order_of_texts.Goals as goal

pub returns-then-is_external : goal.returns-then-is_external
returns-then-is_external c =
    let a = c.args in
    let e = text_far a.heap.now a.b c.requires.1 (sym c.is_external.ensures ∙ c.if-is_external.true) in
    c.order_of_text.ensures ∙ rw (c.get_bytes.ensures, c.offset.ensures, e)

pub slice_bounds-order_of_text-end : goal.slice_bounds-order_of_text-end
unfolding str_len
slice_bounds-order_of_text-end c =
    let a = c.args in
    let k = text_near a.heap.now a.b c.requires.1 (sym c.is_external.ensures ∙ c.if-is_external.false) in
    omega (arith, k.0)

pub returns : goal.returns
unfolding str_len
returns c =
    let a = c.args in
    let k = text_near a.heap.now a.b c.requires.1 (sym c.is_external.ensures ∙ c.if-is_external.false) in
    c.order_of_text-2.ensures
    ∙ rw (c.put_word.ensures, k.1)
    (ap (λ (s : List ℕ). named (cmp_content (content a.heap.now a.a) (str s))) (laid _ (str_len a.b - 0) (str_len a.b) a.b.0 (omega arith) (omega (arith, k.0))))
