pub mod Attempt
pub mod Count
pub mod Drawn
pub mod FirstHit
pub mod Fair
pub mod StateSpace
pub mod OneOutcome
pub mod Row
