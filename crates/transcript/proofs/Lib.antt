-- The laws of a transcript's text.
pub mod Putting
pub mod Lengths
pub mod Texts
