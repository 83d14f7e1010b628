-- The laws of the order, and what its first words tell.
pub mod Laws
pub mod PartWords
pub mod Ways
pub mod Below
pub mod Agree
