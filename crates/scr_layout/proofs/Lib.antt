pub mod RowLemmas
pub mod NameLemmas
pub mod LetterLemmas
pub mod LabelLemmas
pub mod WordLemmas
