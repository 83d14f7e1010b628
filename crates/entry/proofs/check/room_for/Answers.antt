-- `room_for` meets its contract. Assumes nothing.
use Rattle.entry.specs.Scratch.{room_is}
use Rattle.entry.proofs.check.room_for.Goals as goal

pub returns : goal.returns
returns c = room_is _
