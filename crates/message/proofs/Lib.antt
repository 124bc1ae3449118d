-- Laws of bits, of messages and of the form test.
pub mod Numbers
pub mod Bytes
pub mod Packing
pub mod Reading
pub mod Writing
pub mod Form
pub mod RoundTrip
pub mod Tells
