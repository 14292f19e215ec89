pub mod OptionTable
pub mod Command
pub mod Reading
