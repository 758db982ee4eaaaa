-- The table that a merge or a join works on: the view, what the functions promise, and the laws.
pub mod Work
pub mod Calls
pub mod WorkLaws
pub mod LayLaws
pub mod Moves
