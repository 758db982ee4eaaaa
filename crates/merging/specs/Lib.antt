-- The end of a merge or join over areas: what the functions promise.
pub mod Growth
