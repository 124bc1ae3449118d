-- The output line for a line, what is left when its numbers have been read, and what is written for an input.
pub mod Desk
pub mod Kept
pub mod Numbers
pub mod Theorems
