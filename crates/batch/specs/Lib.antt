-- What the checks of a batch answer, and laws for their loops and for the sort.
pub mod Finding
pub mod Steps
pub mod Twins
pub mod Sorting
