pub mod Orderly
pub mod TurnSets
pub mod Views
pub mod Search
pub mod Near
pub mod Spread
pub mod Outlooks
