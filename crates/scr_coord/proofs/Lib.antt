pub mod MarkedLaws
pub mod ListViews
pub mod MarkedSteps
pub mod GoalNumbers
pub mod ProjectionLaws
pub mod MarkedPieces
