-- What the contracts of `pipe_log` and of the crates above it cite.
pub mod Numbers
pub mod Causes
pub mod Freshness
pub mod Rows
