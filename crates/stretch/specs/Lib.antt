-- The stretch of an area that holds one group: its layout, the table that it stands for, and what a change makes of it.
pub mod Layout
pub mod Stretch
pub mod StretchLaws
pub mod Changes
pub mod Laws
pub mod Reach
pub mod ReachLaws
