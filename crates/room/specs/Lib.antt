-- The room of waiting parts in lent slices: the view, its layout in two slices, and what the calls on its cells and items promise.
pub mod Rooms
pub mod Layout
pub mod Items
pub mod Batches
pub mod Changes
pub mod Parts
pub mod RoomLaws
pub mod LayoutLaws
pub mod PlaceLaws
pub mod ChangeLaws
pub mod HeadLaws
pub mod BatchLaws
pub mod PartLaws
pub mod RetagLaws
pub mod LimitLaws
