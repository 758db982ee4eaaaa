-- Demand 3 as a statement over areas.
pub mod Areas
pub mod Demand3
