-- The laws that the functions' proofs cite.
pub mod PartWays
pub mod WalkWays
pub mod FinalWays
pub mod KeepWays
pub mod TakingWays
pub mod LimitWays
