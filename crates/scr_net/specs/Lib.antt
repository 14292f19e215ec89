pub mod Geometry
pub mod Nets
pub mod Pieces
pub mod NetText
