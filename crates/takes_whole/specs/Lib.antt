-- The whole program `takes` over areas.
pub mod Whole
