-- Lists and maps as the rules speak of them, and their laws.
pub mod Lists
pub mod Maps
pub mod OrderLaws
pub mod MapLaws
pub mod ListLaws
pub mod BoolLaws
pub mod Cells
