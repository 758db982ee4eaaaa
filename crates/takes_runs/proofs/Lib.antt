-- The laws that the functions' proofs cite.
pub mod KindLaws
pub mod StepLaws
pub mod ReadingLaws
pub mod OutLaws
pub mod BlockLaws
pub mod EndLaws
pub mod TotalLaws
