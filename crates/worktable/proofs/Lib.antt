-- The ways through the functions of the work table.
pub mod LayWays
pub mod MoveWays
pub mod EndWays
