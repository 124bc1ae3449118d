-- A run carried through in order, and what the code holds of it.
pub mod Execution
pub mod Held
pub mod Theorems
