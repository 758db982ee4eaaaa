-- A part that comes to a room: where its group waits, what becomes of the part, and the forms in which it is put into a cell.
pub mod Steps
pub mod Accepts
pub mod Forms
pub mod Merges
pub mod StepLaws
pub mod FormLaws
pub mod JudgeLaws
pub mod FinishLaws
