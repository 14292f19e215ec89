pub mod Ahead
pub mod Lines
pub mod Parts
pub mod Reading
pub mod Agreement
pub mod Taken
pub mod Shapes
