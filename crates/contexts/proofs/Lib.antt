-- The laws that the functions' proofs cite.
pub mod ContextLaws
pub mod Lengths
