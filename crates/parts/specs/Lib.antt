-- The waiting parts of two rooms in a merge: which of them finish, the tombstones among these, what waits afterwards, and the laws.
pub mod ItemLaws
pub mod CellLaws
pub mod Finishings
pub mod Walks
pub mod Finals
pub mod Takings
pub mod TakingLaws
