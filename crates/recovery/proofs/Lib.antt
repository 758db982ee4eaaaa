-- Demand 3 of the calls.
pub mod Passes
pub mod Theorem
