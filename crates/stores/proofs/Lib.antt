-- The laws that the functions' proofs cite.
pub mod WrittenLaws
pub mod AddLaws
pub mod TakingLaws
pub mod CopyLaws
pub mod AppendLaws
