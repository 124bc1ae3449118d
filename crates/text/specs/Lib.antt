-- A number in a word, the numbers of an input, and text that is put into a slice.
pub mod Decimal
pub mod Numbers
pub mod Text
