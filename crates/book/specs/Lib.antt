-- Books and draws.
pub mod Book
pub mod Books
pub mod Theorems
