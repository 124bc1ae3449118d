-- The pairing of draws, and demand 3.
pub mod Paired
pub mod Theorems
pub mod Demands
