pub mod Round
pub mod SheetLine
pub mod Made
