-- The pairing of draws (DrawsPair): draws by their parts, what moves, what stays, there and back.
pub mod Parts
pub mod Moves
pub mod Pairs
pub mod Backs
pub mod Shapes
pub mod DrawsPairing
-- Whole records of one side are equal under alike secrets (demand 3): the observer's state, the other's messages, every list of calls.
pub mod Own
pub mod Lockstep
pub mod SameView
pub mod EqualRecords
-- All together
pub mod Theorem
