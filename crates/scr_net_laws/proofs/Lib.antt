pub mod HeldNets
pub mod LettersKept
pub mod OneNet
pub mod OneOrbit
pub mod PlayedNets
