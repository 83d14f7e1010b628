-- `store::put_word` meets its contract: the library's bytes of a word are its bytes, lowest first. Assumes nothing.
use Rattle.std.proofs.Common.{ap, ◌∙◌}
use Rattle.store.specs.Words.{patch}
use Rattle.store.specs.Cells.{le_bytes}
use Rattle.store.proofs.put_word.Goals as goal

pub returns : goal.returns
returns c = let a = c.args in c.put.ensures ∙ ap (patch a.s.now a.at) (c.to_le_bytes.ensures ∙ le_bytes a.w)
