-- What the parts of a listing answer, by the rules, and laws for their loops.
pub mod Way
pub mod WayLaws
pub mod Levels
pub mod Descent
pub mod Fill
pub mod Starts
pub mod StartLaws
pub mod Opening
pub mod Candidate
pub mod CandidateLaws
pub mod Advance
pub mod AdvanceLaws
pub mod Least
pub mod Taken
pub mod StepLaws
