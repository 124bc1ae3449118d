-- The laws of input lines and output lines.
pub mod Rows
pub mod Words
pub mod Readings
pub mod Answers
pub mod Splitting
pub mod Samples
