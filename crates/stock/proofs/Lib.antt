-- Laws of the choice.
pub mod Scans
pub mod Choice
pub mod Door
pub mod Meaning
