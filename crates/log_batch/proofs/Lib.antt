-- The laws that the functions' proofs cite.
pub mod PlaceLaws
pub mod RowLaws
pub mod ItemLaws
pub mod LeastLaws
pub mod CheckLaws
pub mod PlainLaws
