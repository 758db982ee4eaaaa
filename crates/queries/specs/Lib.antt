-- What the contracts of `queries` cite, and the laws of those definitions.
pub mod Fetches
pub mod Places
pub mod PlaceLaws
pub mod All
pub mod AllLaws
pub mod Cleaned
