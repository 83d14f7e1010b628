-- What the insert and its parts leave.
pub mod Wrote
pub mod Told
pub mod PutLaws
pub mod Load
pub mod Split
pub mod Settle
pub mod Flush
pub mod Cycle
pub mod Root
pub mod Raise
