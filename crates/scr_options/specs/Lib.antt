pub mod OptionWords
pub mod Hyphens
pub mod Words
pub mod OptionsCommand
pub mod Split
