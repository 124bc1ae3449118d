-- The calls of a side.
pub mod Side
pub mod Work
