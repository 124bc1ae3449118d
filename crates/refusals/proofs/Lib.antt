-- Demand 1: the first no of a list of questions, what a call leaves, and each call.
pub mod Deciding
pub mod Leaving
pub mod Calls
