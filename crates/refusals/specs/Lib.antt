-- The questions of each call, and demand 1.
pub mod Questions
pub mod Demands
