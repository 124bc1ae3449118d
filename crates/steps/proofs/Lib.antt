-- Bounds that the functions need, and the laws of a context and of its gates.
pub mod Bounds
pub mod Columns
pub mod Contexts
pub mod Gates
