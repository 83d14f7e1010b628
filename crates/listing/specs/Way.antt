-- An end of a cursor as frames, and frames as an end.
use Rattle.std.specs.Prelude.{ℕ, List}
use Rattle.rules.specs.Listing.{Frame, frames_from, indices_of, pages_of}
use Rattle.listing.specs.declared.way.Way.{Way}

-- the frames of the used levels
abbrev pub frames_of : ℕ → Way → List Frame
frames_of h w = frames_from h w.indices w.pages

-- "the others are written as zero"
unfoldable pub way_of : List Frame → Way
way_of fs = record { indices = indices_of fs; pages = pages_of fs }
