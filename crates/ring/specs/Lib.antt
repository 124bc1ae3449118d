-- Products modulo q and X^256 + 1: the schoolbook product, the factor list, the transform of FIPS 204, the calls, and what is proved of them.
pub mod Product
pub mod Factors
pub mod Ntt
pub mod Calls
pub mod Theorems
-- what the code does between its reductions
pub mod Layers
