-- Facts computed from the rules: 01's starred bench cases, examples that tell the rules from likely wrong ones, and a script of calls.
pub mod Opened
pub mod Terms
pub mod Bench
pub mod Examples
pub mod LimitExamples
pub mod ContextExamples
pub mod Script
