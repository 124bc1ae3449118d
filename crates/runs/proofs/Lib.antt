-- Theorems about every list of calls: Progress and demand 2.
-- Progress: doors, party states, stages, then counts
pub mod Laws
pub mod Doors
pub mod PartyStates
pub mod Stages
pub mod Counts
pub mod Steps
pub mod Both
pub mod Whole
-- Demand 2
pub mod Tally
pub mod Steady
pub mod Carried
pub mod Answers
-- The honest run, from ColumnsJoin, messages and books
pub mod Start
pub mod Slices
pub mod Sharing
pub mod Opens
pub mod Runs
pub mod Sent
-- All together
pub mod Theorem
