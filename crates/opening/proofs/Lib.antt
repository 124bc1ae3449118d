-- Laws of a round's openings.
pub mod Checks
pub mod Columns
pub mod Ranges
pub mod Sending
pub mod Taking
