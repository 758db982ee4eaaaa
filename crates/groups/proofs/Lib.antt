pub mod Savings
pub mod Securings
pub mod Restorings
pub mod Undoings
pub mod Finding
pub mod Applying
