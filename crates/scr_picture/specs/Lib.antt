pub mod Stickers
pub mod Grid
pub mod Pyraminx
pub mod Skewb
pub mod Megaminx
pub mod Names
pub mod Pictures
pub mod Pieces
