-- The laws that the functions' proofs cite.
pub mod Clearing
pub mod Loans
pub mod Adding
pub mod Opening
pub mod Taking
pub mod Pushing
pub mod Settling
pub mod Copying
