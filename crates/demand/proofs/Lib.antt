-- Demand 3 of the code for a caller in C or C++: Called is about one call, Upheld has the theorem.
pub mod Called
pub mod Upheld
