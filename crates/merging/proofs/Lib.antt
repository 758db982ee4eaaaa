-- The laws that the functions' proofs cite.
pub mod EndWays
pub mod GrowthWays
pub mod JoinWays
pub mod FinishWays
pub mod WaitWays
