pub mod Coordinates
pub mod SearchSpaces
pub mod Products
pub mod Moves
pub mod Indexes
