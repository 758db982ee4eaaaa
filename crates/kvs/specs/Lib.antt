-- What the contracts of `kvs` cite, and the laws of those definitions.
pub mod Rows
pub mod RowLaws
pub mod SameLaws
pub mod RowIn
pub mod Writes
pub mod Orders
pub mod Places
pub mod PlaceLaws
pub mod Stretches
pub mod Calls
pub mod Merge
