-- What a search for repeated datoms answers, and one for datoms that are not held, and laws for their loops.
pub mod Look
pub mod Steps
pub mod Gap
pub mod Path
pub mod Held
