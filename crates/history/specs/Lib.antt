-- What a history of calls promises: Statement and More say it, and proofs/ has what is proved of it, and histories.
pub mod Statement
pub mod Fit
pub mod More
-- trees, and pages that hold them
pub mod Order
pub mod Rank
pub mod Tree
pub mod Pages
pub mod Unique
pub mod Child
pub mod Merge
pub mod Graft
-- what is read: lookups, listings, the check
pub mod Look
pub mod Cursor
pub mod Step
pub mod Lists
pub mod Sound
-- what is written: pages, splits, flushes, inserts
pub mod Held
pub mod Split
pub mod Span
pub mod Flush
pub mod Grow
-- calls over bytes, one after the other
pub mod Sort
pub mod Batch
pub mod Checks
pub mod After
