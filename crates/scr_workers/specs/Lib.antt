pub mod Answered
pub mod Boards
pub mod Gather
pub mod Rule
pub mod Schedules
pub mod Seats
pub mod Work
