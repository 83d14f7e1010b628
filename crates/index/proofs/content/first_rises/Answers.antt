-- `content::first_rises` meets its contract: the first eight bytes decide. Assumes nothing.
use Prim.Native.Nat.{◌<◌}
use native.Mathlib.Omega.{arith}
use mathlib.Core.Path.{◌∙◌, ap}
use borrow.Author.Tests.{ltb-true}
use Rattle.store.specs.Laws.{apart}
use Rattle.index.specs.Key.{swapped}
use Rattle.index.specs.Eight.{words_less, swap_is}
use Rattle.index.proofs.content.first_rises.Goals as goal

pub returns-then-a-lt8 : goal.returns-then-a-lt8
returns-then-a-lt8 c = λ e. absurd (apart (cc))

pub returns-then-b-lt8 : goal.returns-then-b-lt8
returns-then-b-lt8 c = λ e. absurd (apart (cc))

pub returns : goal.returns
returns c = λ e.
    let below : c.swap_bytes.result < c.swap_bytes-2.result = ltb-true _ _ e in
    let a = c.args in
    words_less a.a.now a.b.now 0 (λ i. (c.shared_slice_known-1.given i).fits)
    (λ i. (c.shared_slice_known-2-1.given i).fits) (omega arith) (omega arith)
    (omega (arith, c.swap_bytes.ensures ∙ swap_is c.word.result (omega arith) ∙ ap swapped c.word.ensures, c.swap_bytes-2.ensures ∙ swap_is c.word-2.result (omega arith) ∙ ap swapped c.word-2.ensures, below))
