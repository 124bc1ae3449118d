-- All choices of keys.
pub mod Choices
-- The check of an opening, and the limit.
pub mod Check
pub mod Limit
-- Take, in honest runs under tried keys of the receiver.
pub mod Takes
pub mod Others
pub mod Follows
pub mod Tried
pub mod Runs
pub mod Rounds
-- All together
pub mod Theorem
