pub mod Part
pub mod PartLaws
pub mod Bytes
