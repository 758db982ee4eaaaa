-- Document 01 as definitions. `Calls` and `Queries` have what the public calls answer; the rest is what those are made of.
pub mod Limits
pub mod Causes
pub mod Items
pub mod Checks
pub mod Table
pub mod TableQueries
pub mod Context
pub mod Waiting
pub mod Calls
pub mod Queries
