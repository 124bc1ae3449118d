-- Numbers modulo q, sums, congruence, linear forms over a column, and that q is prime.
pub mod Field
pub mod Sums
pub mod Congruence
pub mod Forms
pub mod Theorems
