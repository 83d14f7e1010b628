-- Bounds as the code writes them, laws for the walk, and what the check may answer.
pub mod Bounds
pub mod Verdict
pub mod Walk
pub mod Leaf
pub mod Along
pub mod Root
pub mod Answers
