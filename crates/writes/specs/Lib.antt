-- Contexts and the index over lent areas: what an item does, the view of an area, and what the calls promise.
pub mod Layout
pub mod Writes
pub mod WaitsLaws
pub mod Finishes
pub mod StoredLaws
pub mod SpanLaws
pub mod FinishLaws
pub mod MarkedLaws
pub mod Accepting
pub mod AcceptLaws
