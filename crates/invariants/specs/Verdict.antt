-- The verdict on pages that were walked: sound, or the first page that is not, with what is wrong with it.
use Rattle.std.specs.Prelude.{Result, Ok, Err}
use Rattle.answer.specs.declared.Damage.{Damage}
use Rattle.answer.specs.Answers.{Check, is_sound, unsound_at}

abbrev pub verdict_of : Result (Unit {0}) Damage → Check
verdict_of (Ok v) = is_sound
verdict_of (Err d) = unsound_at d.page d.fault
