-- Demand 3 as a statement over the rules.
pub mod Held
pub mod Recovery
pub mod Demand3
