-- The names of faults, the table of numbers that a caller may get, and the cursors that bytes hold.
pub mod Answers
pub mod Names
pub mod Table
pub mod Named
pub mod Fit
pub mod Damage
