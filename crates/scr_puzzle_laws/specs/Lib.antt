pub mod Barred
pub mod ClockKnown
pub mod CubeSymmetry
pub mod Played
pub mod PyramHolds
pub mod PyramKnown
pub mod SkewbStickers
pub mod Sq1Known
