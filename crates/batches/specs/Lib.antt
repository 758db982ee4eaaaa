-- A batch on an area, item by item: what the functions promise, and the laws.
pub mod Steps
pub mod Acts
pub mod ItemLaws
pub mod Runs
pub mod OwnLaws
pub mod Growth
pub mod ActLaws
pub mod RunLaws
pub mod BatchLaws
pub mod GrowthLaws
pub mod CarryLaws
pub mod Singles
pub mod SingleLaws
