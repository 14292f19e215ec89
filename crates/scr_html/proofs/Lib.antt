pub mod PartLemmas
pub mod TextLemmas
