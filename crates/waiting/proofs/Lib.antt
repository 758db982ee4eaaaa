-- The laws that the functions' proofs cite.
pub mod Finding
pub mod Accepting
pub mod Forming
pub mod Limiting
pub mod Moving
pub mod Merging
