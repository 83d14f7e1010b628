-- The order of datoms, and a number for each value that is in the order. The order's laws are in proofs/.
pub mod Order
pub mod Numbers
pub mod Examples
pub mod Key
pub mod Compare
pub mod Keys
pub mod Front
pub mod Parts
pub mod Named
pub mod Form
pub mod Strings
pub mod Eight
pub mod Kinds
