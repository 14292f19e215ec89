pub mod WithinLaws
pub mod Meeting
pub mod TurnLaws
pub mod Alternation
pub mod KeyLaws
pub mod LevelLaws
pub mod FoundLaws
pub mod Counted
mod LayersLaws
