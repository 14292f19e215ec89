pub mod AddsLemmas
pub mod EscapedLemmas
pub mod PlainLemmas
pub mod ReadingLemmas
