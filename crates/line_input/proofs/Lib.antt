-- The laws of whole inputs.
pub mod Program
pub mod Last
