-- The form of an input line and the text of an output line; words for the code's loops.
pub mod Rows
pub mod Line
pub mod Reading
pub mod Answer
