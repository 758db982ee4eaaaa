-- Document 01's program `takes` as definitions: `Lines` has what a line says, `Program` what the program prints for its input.
pub mod Fields
pub mod Lines
pub mod Output
pub mod Program
