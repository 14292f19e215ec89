pub mod Seed
pub mod Stream
pub mod Taken
