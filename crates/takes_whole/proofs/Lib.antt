-- The theorem.
pub mod Theorem
