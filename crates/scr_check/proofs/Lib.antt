pub mod CutLemmas
pub mod PartLemmas
pub mod ReadingLemmas
pub mod FaultLemmas
pub mod CheckLemmas
pub mod AheadLemmas
pub mod ListLemmas
