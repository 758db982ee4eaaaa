-- The definitions that the contracts cite.
pub mod Told
pub mod Arguments
pub mod Agreement
