-- Laws of books and draws.
pub mod Places
pub mod Draws
pub mod Sizes
pub mod Books
pub mod Starts
pub mod Laws
