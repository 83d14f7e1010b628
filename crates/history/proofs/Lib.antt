-- What a history of calls promises is proved by Demand and Again; Base is its instance; Example, Wide, Long and Orders are histories.
pub mod Calls
pub mod Asked
pub mod Agree
pub mod Heap
pub mod Invariant
pub mod Roots
pub mod Listing
pub mod Demand
pub mod Again
pub mod Base
pub mod Example
pub mod Wide
pub mod Long
pub mod Orders
