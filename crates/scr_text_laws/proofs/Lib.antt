pub mod AnswerLemmas
pub mod CheckLemmas
pub mod FaultLemmas
pub mod ListOnLiterals
pub mod OnlyLemmas
pub mod PrintedLemmas
