-- What a line gives by the plain meaning, what it draws, and the run that gives it.
pub mod Plain
pub mod Run
