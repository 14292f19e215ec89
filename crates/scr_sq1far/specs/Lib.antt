pub mod Within
pub mod Alternating
pub mod Levels
pub mod Found
