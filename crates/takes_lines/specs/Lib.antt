-- The lines of 01's program `takes`, read and written: `Reading` has how a line is read, `Reads` that this is what the line says;
-- `Bytes` has that the program can be read byte by byte, `Answers` what a caller learns.
pub mod Reading
pub mod Letters
pub mod Kept
pub mod Reads
pub mod Views
pub mod Written
pub mod Answers
pub mod Bytes
