-- The laws that the functions' proofs cite.
pub mod ToldLaws
pub mod AskedLaws
pub mod GetLaws
