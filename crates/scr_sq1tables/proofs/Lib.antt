mod Numbers
mod Codes
pub mod Renamed
mod Indexed
pub mod ShapeStage
pub mod PairingStage
pub mod HomeStage
pub mod LetterWords
pub mod ShapeWordLaws
pub mod StateTables
pub mod Cited
