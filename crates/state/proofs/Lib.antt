-- Laws of a side's states.
pub mod States
pub mod Steps
