-- The laws that the functions' proofs cite.
pub mod CallLaws
pub mod StoredWays
pub mod SpanWays
pub mod FinishWays
pub mod ReplayWays
pub mod WriteWays
