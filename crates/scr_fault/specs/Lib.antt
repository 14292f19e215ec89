pub mod Faults
pub mod Message
pub mod Status
