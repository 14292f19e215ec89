pub mod Faults
pub mod Bytes
pub mod Change
pub mod Fixed
pub mod Memory
pub mod Standard
