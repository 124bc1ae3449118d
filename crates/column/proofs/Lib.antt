-- Laws of the rounds: the code's writes, the slice at the start, joined columns (ColumnsJoin), the plain run (PlainRun).
pub mod Written
pub mod Tables
pub mod Contexts
pub mod Columns
pub mod Slices
pub mod Joins
pub mod Clear
pub mod Gates
pub mod Checks
pub mod Start
pub mod Rounds
pub mod PlainRun
