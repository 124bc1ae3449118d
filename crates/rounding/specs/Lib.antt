-- Plain meaning, digits, and what the rounds compute in plain numbers.
pub mod Plain
pub mod Digits
pub mod Rounds
pub mod Calls
pub mod Theorems
