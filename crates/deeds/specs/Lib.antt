-- What an item does to its group, as a definition, and that it is what the rules say.
pub mod Deeds
pub mod DeedLaws
