pub mod Exit
pub mod Faults
pub mod Input
pub mod Runs
