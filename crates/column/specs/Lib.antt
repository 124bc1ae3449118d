-- A plain run, what the functions hold, and the theorems of columns.
pub mod Run
pub mod Clear
pub mod Choice
pub mod Numbers
pub mod Held
pub mod Theorems
