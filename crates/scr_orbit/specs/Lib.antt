pub mod Monoids
pub mod LawfulTurns
pub mod PowerPuzzles
pub mod Orbits
pub mod PlaceTurns
pub mod InPlace
pub mod Stickers
