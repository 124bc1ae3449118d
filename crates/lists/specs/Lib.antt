-- The words for lists, their members, and answers.
pub mod Answers
pub mod Lists
pub mod Members
