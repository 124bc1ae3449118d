-- Messages: bits, header, fields, form test.
pub mod Bits
pub mod Message
pub mod Fields
pub mod Theorems
