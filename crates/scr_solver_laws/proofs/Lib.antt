pub mod SmallOnLiterals
pub mod Sq1Cited
