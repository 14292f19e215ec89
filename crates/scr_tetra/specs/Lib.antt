pub mod Skewb
pub mod SkewbKnown
pub mod Pyraminx
pub mod PyramParts
