-- The working slice's layout, its begin, and the public weights of a digit's vector.
pub mod Layout
pub mod Weights
