-- A side.
pub mod State
