-- The laws of a line and of its answer.
pub mod Signed
pub mod Putting
pub mod Numbers
pub mod Lines
pub mod Draws
pub mod Lengths
pub mod Program
pub mod Samples
