-- Laws of the plain meaning and of what the rounds compute.
pub mod Signed
pub mod Differences
pub mod Decompose
pub mod Radix
pub mod ZeroCheck
pub mod HighResult
pub mod BoundResult
pub mod Laws
