-- The laws that the functions' proofs cite.
pub mod Beginning
pub mod Settling
pub mod NumberWays
pub mod TombWays
pub mod ReplayWays
pub mod WorkWays
pub mod FinishingWays
pub mod GroupWays
pub mod StageWays
pub mod TurnWays
