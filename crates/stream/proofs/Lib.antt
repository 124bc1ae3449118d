-- The laws of lines and parts.
pub mod Standing
pub mod Held
pub mod Splitting
pub mod Onto
pub mod Parts
pub mod Calls
pub mod Closing
pub mod Waiting
pub mod Flushing
pub mod Samples
