-- The laws that the functions' proofs cite.
pub mod GrowthLaws
pub mod BatchWays
