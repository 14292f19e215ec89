pub mod Numbers
pub mod Lines
pub mod Parts
pub mod Steps
