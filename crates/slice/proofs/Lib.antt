-- Laws of the slice at the begin, of its columns and kept numbers, and of the sums.
pub mod Begun
pub mod Kept
pub mod Parts
pub mod Ranges
