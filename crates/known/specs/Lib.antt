-- Known results.
pub mod Known
