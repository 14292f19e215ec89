pub mod ChoiceLaws
pub mod Listed
pub mod TurnOrder
pub mod MoveLaws
pub mod BitLaws
pub mod Cited
