pub mod Runs
pub mod SheetRows
pub mod Spelling
