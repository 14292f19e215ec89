mod PermutationSteps
mod PlaceSetSteps
mod DigitSteps
mod MixedSteps
mod PairingSteps
pub mod Cited
