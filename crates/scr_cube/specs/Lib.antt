pub mod Cube333
pub mod Composition
pub mod Cube222
pub mod Held
pub mod Stickers
pub mod Known
pub mod ListedTurns
