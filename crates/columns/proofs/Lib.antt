-- The laws that the proofs of `columns` cite.
pub mod ColumnWays
pub mod SliceWays
