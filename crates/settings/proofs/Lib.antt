-- Laws of the constants, of the questions, of the order of a run and of the sizes.
pub mod Refused
pub mod Sets
pub mod Ready
pub mod Keys
pub mod Schedule
pub mod Sizes
