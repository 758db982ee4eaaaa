-- The laws that the functions' proofs cite.
pub mod AddWays
pub mod CloseWays
pub mod ReadWays
pub mod WriteWays
