-- The order that a record names, against the rules.
pub mod Ways
