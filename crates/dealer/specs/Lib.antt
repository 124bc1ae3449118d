-- The dealer's call; what its working functions are told and promise.
pub mod Deal
pub mod Work
pub mod Runs
