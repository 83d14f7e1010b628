-- The constants on a heap.
pub mod Constant
pub mod Laws
pub mod Grow
