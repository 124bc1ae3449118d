-- The laws of the words for lists and answers.
pub mod Indicators
pub mod Questions
pub mod Every
pub mod Lists
pub mod Fill
pub mod Part
pub mod Choices
pub mod Bytes
pub mod Strides
pub mod Members
