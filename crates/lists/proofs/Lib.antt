-- The laws that the functions' proofs cite.
pub mod FrontLaws
pub mod CallLaws
