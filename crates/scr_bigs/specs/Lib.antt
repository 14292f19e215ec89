pub mod Choices
pub mod BigCubes
pub mod CubeMoves
pub mod Megaminx
pub mod Fairness
pub mod Following
pub mod LeftOut
