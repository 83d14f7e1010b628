-- Demand 3 of the code. Code is for a caller in Rattle; Caller for one in C or C++, who has bytes and numbers. proofs/ has the proof of the second.
pub mod Runs
pub mod Code
pub mod Caller
pub mod Area
pub mod Listed
