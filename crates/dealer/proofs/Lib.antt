-- Laws of the dealer's work.
pub mod Work
pub mod Vectors
pub mod Steps
pub mod Door
