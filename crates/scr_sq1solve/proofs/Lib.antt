pub mod Solutions
pub mod TotalLaws
pub mod MinimaLaws
pub mod Lengths
pub mod Cited
pub mod ShortestLaws
