-- Values, last words and datoms: what they mean, and their bytes.
pub mod Value
pub mod Word
pub mod Datom
pub mod Laws
pub mod Bytes
pub mod Stored
pub mod Content
