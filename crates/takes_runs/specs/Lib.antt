-- The program `takes` over areas.
pub mod Steps
pub mod Reading
pub mod Totals
