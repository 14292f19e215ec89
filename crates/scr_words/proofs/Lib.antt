pub mod SameWords
pub mod Digits
