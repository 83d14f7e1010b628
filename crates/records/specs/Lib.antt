pub mod Laid
pub mod Handed
