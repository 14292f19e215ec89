pub mod WordForms
pub mod Steps
pub mod OptionRules
pub mod Rows
pub mod Turns
pub mod Walked
pub mod Ordinary
pub mod Parsed
