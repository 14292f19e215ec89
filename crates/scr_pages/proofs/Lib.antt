pub mod StepLemmas
pub mod AskedLemmas
pub mod MarkLemmas
pub mod GroupLemmas
pub mod SlotLemmas
pub mod PageLemmas
pub mod WritingLemmas
pub mod CheckLemmas
