pub mod DrawOnLiterals
pub mod Spelled
pub mod SpellingLaws
pub mod WordsOnLiterals
