-- Laws of the factor list, of a layer's places, of values at a root, of the inverse, of sums that are not reduced, and the theorems.
pub mod Layers
pub mod Loops
pub mod Lazy
pub mod Sums
pub mod Table
pub mod Evaluation
pub mod Back
pub mod Standard
pub mod Laws
pub mod Onto
pub mod Ready
pub mod Theorem
