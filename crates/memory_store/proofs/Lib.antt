-- That the promises of `Pages` leave one answer.
pub mod Once
