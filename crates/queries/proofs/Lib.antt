-- The laws that the proofs of `queries` cite.
pub mod Parts
pub mod RowLists
pub mod Ways
pub mod AllWays
pub mod Cleanings
