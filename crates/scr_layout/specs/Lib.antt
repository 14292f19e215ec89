pub mod Shown
pub mod Group
pub mod Placed
pub mod Texts
pub mod Holding
pub mod Name
pub mod Rows
