-- Sets, settings, the questions about them, the order of a run, and the sizes that follow.
pub mod Sets
pub mod Settings
pub mod Refusals
pub mod Questions
pub mod Schedule
pub mod Sizes
pub mod Theorems
