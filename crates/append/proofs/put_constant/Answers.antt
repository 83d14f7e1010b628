-- `put_constant` meets its contract: the word and the padded bytes fill what is lent. Assumes nothing.
use native.Mathlib.Omega.{arith}
use mathlib.Core.Path.{◌∙◌}
use lib.ListN.{length}
use Rattle.rules.specs.Appended.{up_to}
use Rattle.append.specs.Ways.{constant_made}
use Rattle.append.proofs.put_constant.Goals as goal

pub put_padded-requires : goal.put_padded-requires
put_padded-requires c =
    let a = c.args in
    (omega (arith, (up_to (length a.bytes.now)).0), omega arith)

pub returns : goal.returns
returns c =
    let a = c.args in
    c.put_padded.ensures ∙ rw c.put_word.ensures (constant_made a.free.now a.word a.bytes.now (omega arith))
