-- Shared polynomials: their products with a public one, their sums, and runs on their coefficients.
pub mod Shared
pub mod Theorems
