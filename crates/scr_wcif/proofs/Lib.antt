pub mod ItemLemmas
pub mod StepLemmas
pub mod FillLemmas
pub mod TakeLemmas
pub mod PartLemmas
pub mod FilledLemmas
pub mod KeptLemmas
