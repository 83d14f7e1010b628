-- What an append answers and leaves, against the rules.
pub mod Answers
pub mod Ways
