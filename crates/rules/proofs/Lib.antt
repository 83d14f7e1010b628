-- What is proved of the rules: no node outgrows its place, a split keeps every datom and child, what a page that is read is known to be.
pub mod SplitLaws
pub mod Spans
pub mod Sizes
pub mod Turns
pub mod ReadLaws
pub mod Within
