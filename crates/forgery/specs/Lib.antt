-- How often a forger is believed (request Six).
pub mod Choices
pub mod Forgery
pub mod Runs
pub mod Theorems
