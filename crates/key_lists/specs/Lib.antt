-- What the contracts of `key_lists` cite.
pub mod Lists
