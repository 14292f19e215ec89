pub mod Spins
pub mod Turning
