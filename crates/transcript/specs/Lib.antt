-- The text of a transcript.
pub mod Transcript
