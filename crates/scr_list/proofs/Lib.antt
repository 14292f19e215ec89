pub mod EventLemmas
pub mod NameLemmas
pub mod VersionLemmas
pub mod RoundLemmas
pub mod RoundFacts
pub mod ReadLemmas
