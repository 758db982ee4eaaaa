-- The kind and the lists of a context, which stand behind its groups: the view, what the calls on them promise, and the laws.
pub mod Rest
pub mod Calls
pub mod Laws
pub mod SameLaws
