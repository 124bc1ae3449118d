-- The law of the program's output.
pub mod Program
