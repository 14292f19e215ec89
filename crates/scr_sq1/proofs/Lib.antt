pub mod InHalves
pub mod LaidLaws
pub mod HalfWords
pub mod HalfByHalf
pub mod HalfNumbers
pub mod StatePieces
pub mod Numbering
pub mod Places
pub mod TurnLaws
pub mod Clockwise
pub mod Lawful
pub mod NumberedTurns
pub mod LayersApart
mod Steps
mod ShapeSteps
mod PieceSteps
pub mod Cited
