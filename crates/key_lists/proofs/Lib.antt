pub mod Stretched
pub mod Answers
