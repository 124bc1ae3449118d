-- Laws of a side's calls.
pub mod Questions
pub mod Ready
pub mod Sending
pub mod Taking
