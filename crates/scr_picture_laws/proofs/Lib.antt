pub mod TwoModels
pub mod FairShown
pub mod ByWords
pub mod EachPuzzle
pub mod HeldPictures
pub mod FairScrambles
pub mod FairRuns
