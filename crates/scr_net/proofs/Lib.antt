pub mod StickerLaws
pub mod NetLaws
pub mod TurnLaws
pub mod PieceLaws
pub mod LayerTurns
pub mod TextLaws
