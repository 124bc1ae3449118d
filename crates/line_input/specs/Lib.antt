-- What is written for an input, and the state that it leaves a generator in.
pub mod Answers
pub mod Kept
pub mod Theorems
