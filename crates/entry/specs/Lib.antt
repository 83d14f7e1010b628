-- What the entries answer, against document 01's rules for a batch of bytes.
pub mod Reply
pub mod Checks
pub mod Leaf
pub mod Under
pub mod Scratch
