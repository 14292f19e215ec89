pub mod NumberedPyram
pub mod NumberedSkewb
mod EvenTurned
pub mod SkewbLaws
pub mod SkewbDigits
pub mod SkewbOnLiterals
pub mod PyramLaws
pub mod PyramTurns
pub mod PyramLiterals
pub mod PyramWords
pub mod PyramTips
pub mod Cited
