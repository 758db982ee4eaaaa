pub mod CompactWays
pub mod AppendWays
pub mod QueryWays
pub mod FetchWays
pub mod RewriteWays
