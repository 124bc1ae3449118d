-- Laws of a run carried through: the messages, the calls, the honest run, books in place of a draw.
pub mod Messages
pub mod Calls
pub mod Sends
pub mod Whole
pub mod Given
pub mod Honest
