-- An area as a context or the index, what the calls promise, and the laws of an area.
pub mod Contexts
pub mod AreaLaws
