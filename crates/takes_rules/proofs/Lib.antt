-- Facts computed from the definitions: 01's example, malformed lines of every kind, and 01's sentences one by one.
pub mod Texts
pub mod Opened
pub mod Examples
pub mod Inputs
pub mod LineSentences
pub mod PrintSentences
