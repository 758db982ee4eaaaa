-- What the contracts of `columns` cite, and the laws of those definitions.
pub mod ColumnLaws
pub mod Slices
pub mod SliceLaws
pub mod Fetches
