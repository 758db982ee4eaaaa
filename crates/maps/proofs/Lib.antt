-- The laws of cells.
pub mod CellLaws
