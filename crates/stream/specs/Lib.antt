-- The lines of an input, how the code goes through an input in parts, the theorem that joins the two, and answers that wait.
pub mod Input
pub mod Stream
pub mod Theorems
pub mod Waiting
