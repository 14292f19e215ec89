pub mod TableText
pub mod Counted
