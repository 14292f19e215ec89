pub mod CountLaws
pub mod CountLines
pub mod TextsLaws
pub mod StateTexts
