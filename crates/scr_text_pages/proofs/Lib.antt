pub mod SplitLemmas
pub mod ReadLemmas
pub mod AddLemmas
pub mod PlainLemmas
pub mod RowLemmas
pub mod CutLemmas
pub mod HeadLemmas
pub mod SlotLemmas
