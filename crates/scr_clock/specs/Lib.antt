pub mod Dials
pub mod Numbers
pub mod Held
pub mod Written
pub mod Least
pub mod Sides
