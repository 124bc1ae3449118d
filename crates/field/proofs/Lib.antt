-- Laws of congruence, division, sums, differences and forms; q is prime.
pub mod Division
pub mod Congruence
pub mod Solve
pub mod Sums
pub mod Differences
pub mod Forms
pub mod Prime
