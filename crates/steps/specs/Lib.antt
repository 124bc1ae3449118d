-- The seven rounds as linear forms over a column, and on a working slice of columns.
pub mod Steps
pub mod Work
pub mod Context
pub mod Gates
