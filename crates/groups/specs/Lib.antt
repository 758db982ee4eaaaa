-- Eight stretches of an area as the rules' map of groups: the view, and what the calls on it promise.
pub mod Area
pub mod Calls
pub mod Undo
pub mod BackLaws
pub mod PlaceLaws
pub mod Laws
pub mod AreaLaws
pub mod UndoLaws
