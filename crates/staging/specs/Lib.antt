-- The groups of a merge or join that are worked and staged, what the functions promise, and the laws.
pub mod Staging
pub mod StagingLaws
pub mod Modes
pub mod ModeLaws
pub mod TombLaws
pub mod Works
pub mod WorkLaws
pub mod Replays
pub mod Finishings
pub mod CoverLaws
