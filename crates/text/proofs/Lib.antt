-- The laws of numbers that are read and of text that is put.
pub mod Decimals
pub mod Words
pub mod Inputs
pub mod Puts
pub mod RoundTrip
pub mod Samples
