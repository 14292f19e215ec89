pub mod Reading
pub mod Nets
pub mod Slots
pub mod Adding
