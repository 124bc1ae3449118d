-- Lists of numbers below q, and what is missing to a secret, number by number.
pub mod Listed
pub mod Joined
-- Products; sums and coefficients
pub mod Products
pub mod Sums
pub mod Inputs
-- All together
pub mod Theorem
