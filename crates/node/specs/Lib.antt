-- A node in an area: what the code promises of it, and the laws behind that.
pub mod Moves
pub mod Stores
pub mod Spans
pub mod Plain
pub mod Merge
pub mod Turns
pub mod Splice
pub mod Frames
pub mod Parts
