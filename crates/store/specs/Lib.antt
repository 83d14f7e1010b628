-- Bytes and words, page ids, page sizes.
pub mod Words
pub mod Page
pub mod Size
pub mod Laws
pub mod Cells
pub mod Padding
pub mod Bytes
pub mod Record
