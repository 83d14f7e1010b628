-- What the call that asks for a batch answers, against the rules.
pub mod Ways
pub mod Answers
