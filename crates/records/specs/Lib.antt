-- What the contracts of `records` cite.
pub mod Filling
pub mod FillingLaws
pub mod Fetches
pub mod Plans
pub mod Rows
