-- `four_integers` meets its contract: none of the four is above the bits of all. Assumes nothing.
use Rattle.std.proofs.Common.{◌^◌, ◌<◌, arith, ltb-true}
use lib.Bits.{bit_or}
use Rattle.index.specs.Compare.{or_left, or_right}
use Rattle.memory_store.proofs.reader.four_integers.Goals as goal

pub returns : goal.returns
returns c = λ e.
    let w₁ = c.word.result in
    let w₂ = c.word-2.result in
    let w₃ = c.word-3.result in
    let w₄ = c.word-4.result in
    let h : bit_or (bit_or w₁ w₂) (bit_or w₃ w₄) < 2 ^ 62 = ltb-true _ _ e in
    omega (arith, h, or_left (bit_or w₁ w₂) (bit_or w₃ w₄), or_right (bit_or w₁ w₂) (bit_or w₃ w₄), or_left w₁ w₂, or_right w₁ w₂, or_left w₃ w₄, or_right w₃ w₄)
