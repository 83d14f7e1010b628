-- What the entries answer, that the reader's promises settle its answers, and what the rules answer case by case.
pub mod Seen
pub mod Laws
pub mod Unique
pub mod Cases
