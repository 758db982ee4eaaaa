-- The proof of demand 3: laws of windows, one group, contexts, the rule of what is held, and the theorem.
pub mod Basics
pub mod Windows
pub mod Group
pub mod Contexts
pub mod Merging
pub mod Passes
pub mod Rule
pub mod OnePass
pub mod Counts
pub mod Theorem
pub mod Counterexamples
