-- Choice of a book from two stocks.
pub mod Stock
pub mod Scan
pub mod Theorems
