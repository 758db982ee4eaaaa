-- The ways through the changes of a stretch.
pub mod Outcomes
pub mod Reaches
pub mod EntryWays
pub mod KeyWays
pub mod SpanWays
